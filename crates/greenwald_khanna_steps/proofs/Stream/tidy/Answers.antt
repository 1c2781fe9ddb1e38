-- `greenwald_khanna_steps::Stream::tidy` meets its contract: what `compress` leaves in the held places is what the definition says, with the same n.
-- Assumes nothing.
use Rattle.greenwald_khanna_steps.proofs.Halves.{tidied_holds}
use Rattle.greenwald_khanna_steps.proofs.Stream.tidy.Goals as goal

pub returns : goal.returns
returns g c =
    tidied_holds g.T.Slot.entry c.args.self c.args.list.now c.compress-held.new.list c.p-most.result c.compress-held.result c.requires.0 c.requires.1 c.p-most.ensures c.compress-held.ensures
