-- `greenwald_khanna_steps::Stream::check` meets its contract: each return is a case of the definition.
-- Assumes nothing.
use lib.ListN.{length-map}
use Rattle.greenwald_khanna_steps.specs.Sound.{checked}
use Rattle.greenwald_khanna_steps.proofs.Stream.check.Goals as goal

pub returns-then-not-slots_ok : goal.returns-then-not-slots_ok
unfolding checked
returns-then-not-slots_ok g c = rw (length-map c.args.list.now g.T.Slot.entry, ← c.if-not-slots_ok.ensures)

pub returns-then-not-is_sound : goal.returns-then-not-is_sound
unfolding checked
returns-then-not-is_sound g c =
    rw (length-map c.args.list.now g.T.Slot.entry, ← c.if-not-slots_ok.ensures, ← c.if-not-is_sound.ensures)

pub returns : goal.returns
unfolding checked
returns g c =
    rw (length-map c.args.list.now g.T.Slot.entry, ← c.if-not-slots_ok.ensures, ← c.if-not-is_sound.ensures)
