-- `greenwald_khanna_steps::Stream::open` meets its contract: each return is a case of the definition, and all places cleared hold zero entries.
-- Assumes nothing.
use mathlib.Core.List.{map}
use mathlib.Core.Path.{sym, ap, ◌∙◌}
use lib.ListN.{length-map}
use Rattle.refusal.specs.declared.Refusal.TheVariants.{Slots, Epsilon}
use Rattle.entries.proofs.Maps.{zero_is}
use Rattle.greenwald_khanna_steps.specs.Limits.{slots_ok}
use Rattle.greenwald_khanna_steps.proofs.Openings.{open_slots, open_epsilon, open_refused, open_accepted, all_cleared}
use Rattle.greenwald_khanna_steps.proofs.Stream.open.Goals as goal

pub returns-then-not-slots_ok : goal.returns-then-not-slots_ok
returns-then-not-slots_ok g c =
    let list = map g.T.Slot.entry c.args.list.now in
    let slots = ap slots_ok (length-map c.args.list.now g.T.Slot.entry) ∙ sym c.if-not-slots_ok.ensures in
    open_refused c.args.epsilon list Slots (open_slots c.args.epsilon list slots)

pub returns-then-not-is_epsilon : goal.returns-then-not-is_epsilon
returns-then-not-is_epsilon g c =
    let list = map g.T.Slot.entry c.args.list.now in
    let slots = ap slots_ok (length-map c.args.list.now g.T.Slot.entry) ∙ sym c.if-not-slots_ok.ensures in
    open_refused c.args.epsilon list Epsilon (open_epsilon c.args.epsilon list slots (sym c.if-not-is_epsilon.ensures))

pub returns : goal.returns
returns g c =
    let slots = ap slots_ok (length-map c.args.list.now g.T.Slot.entry) ∙ sym c.if-not-slots_ok.ensures in
    open_accepted c.args.epsilon (map g.T.Slot.entry c.args.list.now) _ slots (sym c.if-not-is_epsilon.ensures)
    (all_cleared g.T.Slot.entry _ c.args.list.now c.clear.new.list (c.holding.ensures ∙ zero_is c.default.result c.default.ensures) c.clear.ensures)
