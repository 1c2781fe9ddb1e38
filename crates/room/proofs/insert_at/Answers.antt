-- `room::insert_at` meets its contract: what stands from pos on has moved up by one place.
-- Assumes nothing.
use Rattle.std.proofs.Common.{ap, ◌∙◌, arith}
use lib.ListN.{set}
use Rattle.entries.proofs.Rooms.{room_made}
use Rattle.room.proofs.insert_at.Goals as goal

pub returns : goal.returns
returns g c =
    let a = c.args in
    ap (λ l. set l a.pos a.x) c.copy_within.ensures.after ∙ room_made a.list.now a.held a.pos a.x (omega arith) (omega arith)
