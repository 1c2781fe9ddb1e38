-- `ckms_squash::squash::finish` meets its contract: between two blocks, what the pass is to leave stays the same.
-- Assumes nothing.
use mathlib.Core.Path.{ap, ◌∙◌}
use mathlib.Core.List.{List, ◌++◌}
use Prim.Native.Nat.{ℕ}
use native.Mathlib.Omega.{arith}
use lib.ListN.{take, length-map}
use Rattle.entries.specs.Entry.{entry_of, entries_of}
use Rattle.entries.proofs.Places.{part_end}
use Rattle.ckms_squash.proofs.Squashes.{behind_first, between_more, between_done}
use Rattle.ckms_squash.proofs.squash.finish.Goals as goal

pub loop-len-preserved : goal.loop-len-preserved
loop-len-preserved c =
    let l = c.loop-len in
    between_more _ _ _ _ _ _ _ _ _ l.invariant c.pass-after.result (entries_of c.pass-after.new.rows) (omega arith)
    (omega (arith, length-map c.pass-after.new.rows entry_of)) c.pass-after.ensures

pub returns : goal.returns
returns c =
    let a = c.args in
    let l = c.loop-len in
    let d = between_done _ _ _ _ _ _ _ _ _ l.invariant (omega arith) in
    record {
      list = d.0;
      count = d.1;
      blocks =
          behind_first a.lens.now l.len-items (omega arith)
          ∙ ap (λ (t : List ℕ). take 1 a.lens.now ++ t) (rw (part_end a.lens.now 1) at d.2);
    }
