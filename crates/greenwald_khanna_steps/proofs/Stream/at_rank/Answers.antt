-- `greenwald_khanna_steps::Stream::at_rank` meets its contract: the walk over the held places is the walk over their entries.
-- Assumes nothing.
use mathlib.Core.Path.{sym}
use native.Mathlib.Omega.{arith}
use lib.Seq.{length-take-le}
use Rattle.greenwald_khanna_steps.proofs.LookUp.{looked_up}
use Rattle.greenwald_khanna_steps.proofs.Sounds.{sound_room}
use Rattle.greenwald_khanna_steps.proofs.Stream.at_rank.Goals as goal

pub slice_bounds-look_up-end : goal.slice_bounds-look_up-end
slice_bounds-look_up-end g c =
    sym (length-take-le c.args.self.held c.args.list.now (sound_room g.T.Slot.entry c.args.self c.args.list.now c.requires.0))

pub look_up-requires : goal.look_up-requires
look_up-requires g c =
    let room = sound_room g.T.Slot.entry c.args.self c.args.list.now c.requires.0 in
    let k = length-take-le c.args.self.held c.args.list.now room in
    (omega (arith, c.requires.2), omega (arith, c.requires.1))

pub returns : goal.returns
returns g c =
    looked_up g.T.Slot.entry c.args.self c.args.list.now c.args.r c.floor_mul-margin.result c.look_up.result c.floor_mul-margin.ensures c.look_up.ensures
