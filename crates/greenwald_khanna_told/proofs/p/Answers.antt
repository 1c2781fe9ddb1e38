-- `greenwald_khanna_told::p` meets its contract: of a sound stream, whose ε is allowed, `products::p` is p.
-- Assumes nothing.
use mathlib.Core.List.{map}
use mathlib.Core.Path.{◌∙◌}
use Rattle.greenwald_khanna_told.proofs.Returns.{told_p_lem}
use Rattle.greenwald_khanna_told.proofs.p.Goals as goal

pub returns : goal.returns
returns g c = c.tell.ensures ∙ told_p_lem c.args.stream (map g.T.Slot.entry c.args.list.now) c.p.result c.p.ensures
