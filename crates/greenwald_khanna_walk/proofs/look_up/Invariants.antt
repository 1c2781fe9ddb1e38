use mathlib.Core.Path.{◌≡◌}
use mathlib.Core.List.{map}
use mathlib.Core.Option.{some}
use Prim.Native.Nat.{◌+◌, ◌*◌, ◌≤◌}
use lib.ListN.{drop}
use Rattle.greenwald_khanna_theory.specs.Walk.{walk, look_up}
use Rattle.greenwald_khanna_walk.proofs.look_up.Given as goal

abbrev pub invariant-loop-place : goal.invariant-loop-place
invariant-loop-place g l =
    (l.sum ≤ (l.place-index + 1) * 4294967295)
    × (look_up l.limit (map g.T.Slot.entry l.list) ≡ some (walk l.limit l.sum l.v (map g.T.Slot.entry (drop l.place-index l.place-items))))
