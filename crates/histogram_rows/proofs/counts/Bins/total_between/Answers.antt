-- `histogram_rows::counts::Bins::total_between` meets its contract: the bins between two bounds are a part of the counts, so not too many to add up.
-- Assumes nothing.
use Rattle.histogram_rows.proofs.Choosing.{between_few}
use Rattle.histogram_rows.proofs.Splitting.{between_told}
use Rattle.histogram_rows.proofs.counts.Bins.total_between.Goals as goal

pub total-requires : goal.total-requires
total-requires c =
    between_few c.args.lower c.args.upper c.args.self.binned c.between.ensures

pub returns : goal.returns
returns c =
    between_told c.args.self.bounds.now c.args.self.counts.now c.args.lower c.args.upper _ _ c.between.ensures c.total.ensures
