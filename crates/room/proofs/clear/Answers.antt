-- `room::clear` meets its contract: every place of the part was set.
-- Assumes nothing.
use Rattle.std.proofs.Common.{arith}
use Rattle.entries.proofs.Rooms.{part_cleared}
use Rattle.room.proofs.clear.Goals as goal

pub returns : goal.returns
returns g c =
    part_cleared c.args.zero c.args.list.now c.loop-place.place-items c.args.from c.args.to c.loop-place.place-index (omega arith) (omega arith)
    c.loop-place.auto.place-items (omega arith) c.loop-place.invariant
