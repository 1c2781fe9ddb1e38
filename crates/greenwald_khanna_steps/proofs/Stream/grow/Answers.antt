-- `greenwald_khanna_steps::Stream::grow` meets its contract: a law over lists says what the new entry at its place leaves.
-- Assumes nothing.
use mathlib.Core.List.{map}
use native.Mathlib.Omega.{arith}
use lib.ListN.{take, length-map}
use lib.Seq.{length-take-le}
use Rattle.entries.specs.declared.Entry.{Entry}
use Rattle.entries.specs.Entry.{values}
use Rattle.entries.proofs.Places.{place_le}
use Rattle.greenwald_khanna_steps.proofs.Halves.{grown_places}
use Rattle.greenwald_khanna_steps.proofs.Sounds.{sound_facts, held_rising, accepts_room}
use Rattle.greenwald_khanna_steps.proofs.Stream.grow.Goals as goal

pub place-pos-requires : goal.place-pos-requires
place-pos-requires g c = held_rising g.T.Slot.entry c.args.self c.args.list.now c.requires

pub new_delta-delta-requires : goal.new_delta-delta-requires
new_delta-delta-requires g c = (sound_facts c.args.self (map g.T.Slot.entry c.args.list.now) c.requires.unharmed).epsilon

pub insert_at-requires : goal.insert_at-requires
insert_at-requires g c =
    let held = take c.args.self.held c.args.list.now in
    let entries = map g.T.Slot.entry held in
    let room = accepts_room g.T.Slot.entry c.args.self c.args.list.now c.requires in (
      omega (
        arith,
        c.place-pos.ensures,
        place_le c.args.v (values entries),
        length-map entries (λ (e : Entry). e.v),
        length-map held g.T.Slot.entry,
        length-take-le c.args.self.held c.args.list.now (omega arith),
      ),
      omega arith,
    )

pub returns : goal.returns
returns g c =
    grown_places g.T.Slot.entry c.args.self c.args.list.now c.args.v c.place-pos.result c.new_delta-delta.result _ c.insert_at.new.list
    (omega (arith, accepts_room g.T.Slot.entry c.args.self c.args.list.now c.requires)) c.place-pos.ensures c.new_delta-delta.ensures c.holding.ensures c.insert_at.ensures
