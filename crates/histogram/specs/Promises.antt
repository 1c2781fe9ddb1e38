-- All that is promised of the histogram's definitions, in one record: the contract of `promises` states it, so each field has to be proved.
-- Assumes nothing: these are statements.
use Rattle.histogram_rows.specs.Laws.{BinIsFirst, BetweenIsDifference, BinsAreAPart}
use Rattle.histogram.specs.Laws.{SoundAgrees, BelowAndAbove, PartAddsUp, OpensOneWay, InsertsOneWay, FilledTells}
use Rattle.histogram.specs.Readings.{HistogramReadings}

pub record Promises : Type 0 where
  pub sound_agrees : SoundAgrees
  pub bin_is_first : BinIsFirst
  pub below_and_above : BelowAndAbove
  pub between_is_difference : BetweenIsDifference
  pub bins_are_a_part : BinsAreAPart
  pub part_adds_up : PartAddsUp
  pub opens_one_way : OpensOneWay
  pub inserts_one_way : InsertsOneWay
  pub filled_tells : FilledTells
  pub readings : HistogramReadings
