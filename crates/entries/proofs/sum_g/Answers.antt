-- `entries::sum_g` meets its contract: what the iterator adds up are the g of the entries.
-- Assumes nothing.
use Rattle.std.proofs.Common.{rules, ◌≡◌, ◌∙◌, sum_by}
use Rattle.entries.proofs.Totals.{sum_by_g}
use Rattle.entries.proofs.sum_g.Goals as goal

pub returns : goal.returns
returns g c =
    let summed : c.sum.result ≡ sum_by (λ x. (g.T.Slot.entry x).g) c.args.places.now = search rules in
    summed ∙ sum_by_g g.T.Slot.entry c.args.places.now
