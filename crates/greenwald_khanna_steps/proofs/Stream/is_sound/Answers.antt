-- `greenwald_khanna_steps::Stream::is_sound` meets its contract: a test that fails is a rule broken, and else the last one decides.
-- Assumes nothing.
use mathlib.Core.List.{map}
use mathlib.Core.Path.{sym}
use lib.ListN.{length-map}
use Rattle.greenwald_khanna_steps.proofs.Sounds.{broken, sound_tested}
use Rattle.greenwald_khanna_steps.proofs.Stream.is_sound.Goals as goal

pub returns-then-not-is_epsilon : goal.returns-then-not-is_epsilon
returns-then-not-is_epsilon g c =
    broken c.args.self (map g.T.Slot.entry c.args.list.now) _ _ c.is_epsilon.ensures (sym (length-map c.args.list.now g.T.Slot.entry)) c.then-not-is_epsilon.either

pub returns : goal.returns
returns g c =
    sound_tested g.T.Slot.entry c.args.self c.args.list.now _ _ (sym c.if-not-is_epsilon.ensures) c.if-self-gt-OBSERVATIONS.false c.if-list-held.false c.p-p.ensures c.sound_entries.ensures
