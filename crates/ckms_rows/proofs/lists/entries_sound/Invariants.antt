use mathlib.Core.Path.{◌≡◌}
use Prim.Native.Nat.{◌*◌, ◌≤◌}
use lib.ListN.{drop}
use Rattle.entries.specs.Entry.{entries_of}
use Rattle.ckms_theory.specs.Lists.{entries_sound}
use Rattle.ckms_rows.proofs.lists.entries_sound.Given as goal

abbrev pub invariant-loop-row : goal.invariant-loop-row
invariant-loop-row l =
    (l.sum ≤ l.row-index * 4294967295) × (entries_sound l.most l.n l.low l.sum (drop l.row-index (entries_of l.rows)) ≡ entries_sound l.most l.n 0 0 (entries_of l.rows))
