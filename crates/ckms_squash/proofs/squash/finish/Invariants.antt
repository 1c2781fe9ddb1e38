use Rattle.entries.specs.Entry.{entries_of}
use lib.ListN.{length}
use Rattle.ckms_theory.specs.Pass.{outcome, coming}
use Rattle.ckms_theory.specs.Squash.{kept}
use Rattle.ckms_squash.proofs.Squashes.{Between}
use Rattle.ckms_squash.proofs.squash.finish.Given as goal

abbrev pub invariant-loop-len : goal.invariant-loop-len
invariant-loop-len l =
    Between l.error.fraction (outcome l.error.fraction l.initial.w l.initial.i (entries_of l.initial.rows))
    (kept (coming l.error.fraction l.initial.w l.initial.i (entries_of l.initial.rows)) l.initial.len-items) (length l.initial.rows)
    l.w l.i l.len-index (entries_of l.rows) l.len-items
