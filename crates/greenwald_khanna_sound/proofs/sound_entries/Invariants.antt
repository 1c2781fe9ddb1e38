use mathlib.Core.Path.{◌≡◌}
use mathlib.Core.List.{map}
use Prim.Native.Nat.{◌*◌, ◌≤◌}
use lib.ListN.{drop}
use Rattle.greenwald_khanna_theory.specs.Sound.{sound_entries}
use Rattle.greenwald_khanna_sound.proofs.Soundness.{rest}
use Rattle.greenwald_khanna_sound.proofs.sound_entries.Given as goal

abbrev pub invariant-loop-place : goal.invariant-loop-place
invariant-loop-place g l =
    (l.sum ≤ l.place-index * 4294967295)
    × (sound_entries l.p l.n (map g.T.Slot.entry l.list) ≡ rest l.p l.n l.low l.sum (map g.T.Slot.entry (drop l.place-index l.list)))
