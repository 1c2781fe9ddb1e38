-- All that is promised of the definitions of the histogram's C functions, in one record: the contract of `promises` states it, so each field has to be proved.
-- Assumes nothing: these are statements.
use Rattle.histogram_c.specs.Laws.{HistogramOpensOneWay, HistogramInsertsOneWay, BinsOneWay}

pub record Promises : Type 0 where
  pub histogram_opens_one_way : HistogramOpensOneWay
  pub histogram_inserts_one_way : HistogramInsertsOneWay
  pub bins_one_way : BinsOneWay
