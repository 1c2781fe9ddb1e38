-- All that is promised of the histogram's words, in one record: the contract of `promises` states it, so each field has to be proved.
-- Assumes nothing: these are statements.
use Rattle.histogram_words.specs.Laws.{HistogramMisfits, HistogramBack}

pub record Promises : Type 0 where
  pub histogram_misfits : HistogramMisfits
  pub histogram_back : HistogramBack
