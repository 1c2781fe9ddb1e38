-- `noise_floor::floor` meets its contract: those of opening, of all inserts and of the quantile, put together.
-- Assumes nothing.
use mathlib.Core.List.{map}
use Rattle.noise_floor.proofs.Scans.{floor_answered}
use Rattle.noise_floor.proofs.floor.Goals as goal

pub returns : goal.returns
returns g c =
    floor_answered c.args.epsilon (map g.T.Slot.entry c.args.list.now) c.args.observations.now c.args.phi c.open.result (map g.T.Slot.entry c.open.new.list) c.open.ensures
    c.in_ok-opened.opened c.in_ok-opened.was c.insert_all-scanned.result (map g.T.Slot.entry c.insert_all-scanned.new.list) c.quantile.result c.insert_all-scanned.ensures c.quantile.ensures
