use Rattle.entries.specs.Entry.{entries_of}
use Rattle.ckms_theory.specs.Pass.{Passed}
use Rattle.ckms_squash.proofs.squash.pass.Given as goal

abbrev pub invariant-loop-i : goal.invariant-loop-i
invariant-loop-i l = Passed l.error.fraction l.fn.w l.fn.from l.i (entries_of l.fn.rows) l.w (entries_of l.rows)
