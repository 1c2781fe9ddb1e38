-- The table: every reading that is to be proved, in one record. Each part stands beside the definitions that it reads.
-- Assumes nothing: these are definitions.
use Rattle.noise_floor.specs.Readings.{StreamReadings}
use Rattle.histogram.specs.Readings.{HistogramReadings}
use Rattle.mean.specs.Readings.{MeanReadings}
use Rattle.ckms_store.specs.Readings.{StoreReadings}
use Rattle.ckms.specs.Readings.{CkmsReadings}
use Rattle.scan_lines.specs.Promises.{Reading2}
use Rattle.readings.specs.Ground.{Reading3, Reading4, Reading11}

pub record Readings : Type 0 where
  -- 1, 2, 5: the stream; and of 2 what the program writes, whole
  pub stream : StreamReadings
  pub written : Reading2
  -- 3: the band, 4: the place of a value, 11: inv
  pub reading3 : Reading3
  pub reading4 : Reading4
  pub reading11 : Reading11
  -- 7: the histogram
  pub histogram : HistogramReadings
  -- 9: the store
  pub store : StoreReadings
  -- 10 and 12: the CKMS, and its running mean
  pub ckms : CkmsReadings
  pub mean : MeanReadings
