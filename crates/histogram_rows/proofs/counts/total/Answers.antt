-- `histogram_rows::counts::total` meets its contract: what the iterator adds up are the counts.
-- Assumes nothing.
use Rattle.std.proofs.Common.{rules, ◌≡◌, ◌∙◌, sum_by}
use Rattle.histogram_rows.proofs.Summing.{sum_by_total}
use Rattle.histogram_rows.proofs.counts.total.Goals as goal

pub returns : goal.returns
returns c =
    let summed : c.sum.result ≡ sum_by (λ x. x) c.args.counts.now = search rules in
    summed ∙ sum_by_total c.args.counts.now
