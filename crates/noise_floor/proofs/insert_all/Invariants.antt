use mathlib.Core.Path.{◌≡◌}
use lib.ListN.{drop}
use mathlib.Core.List.{map}
use Rattle.noise_floor.specs.Demand3.{given, run}
use Rattle.noise_floor.proofs.insert_all.Given as goal

abbrev pub invariant-loop-v : goal.invariant-loop-v
invariant-loop-v g l =
    run (given l.stream (map g.T.Slot.entry l.list)) (drop l.v-index l.observations) ≡ run (given l.initial.stream (map g.T.Slot.entry l.initial.list)) l.observations
