-- `noise_floor::insert_all` meets its contract: the run of what is left, from where the loop stands, is the whole run.
-- Assumes nothing.
use mathlib.Core.List.{map}
use Rattle.noise_floor.proofs.Runs.{run_turn, run_done}
use Rattle.noise_floor.proofs.insert_all.Goals as goal

pub loop-v-preserved : goal.loop-v-preserved
loop-v-preserved g c =
    run_turn c.args.observations.now c.loop-v.v-index _ c.loop-v.stream (map g.T.Slot.entry c.loop-v.list) c.loop-v.invariant c.loop-v-test.true
    c.insert.result (map g.T.Slot.entry c.insert.new.list) c.unwrap_or-stream.result c.insert.ensures c.unwrap_or-stream.ensures

pub returns : goal.returns
returns g c =
    run_done c.args.observations.now c.loop-v.v-index _ c.loop-v.stream (map g.T.Slot.entry c.loop-v.list) c.loop-v.invariant c.loop-v-test.false
