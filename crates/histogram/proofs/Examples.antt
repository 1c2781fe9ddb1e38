-- The readings hold, by computation.
-- Assumes nothing.
use mathlib.Core.Path.{refl}
use Rattle.histogram.specs.Runs.{filled}
use Rattle.histogram.specs.Readings.{HistogramReadings}

pub readings : HistogramReadings
unfolding filled
readings = record {
  case7 = refl;
  case7_count = refl;
  case7_sum = refl;
  case7_between = refl;
  equal_bounds = refl;
  inf_below = refl;
  inf_above = refl;
  inf_between = refl;
  inf_inf = refl;
}
