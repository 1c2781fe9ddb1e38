-- Document 01's reading of the running mean.
-- Assumes nothing: these are definitions.
use Rattle.std.specs.Prelude.{◌≡◌, false, pos}
use Rattle.std.specs.Float.{fin}
use Rattle.mean.specs.Mean.{mean_first, mean_next}

-- reading 12: the running mean of 0, 100 is 50, which is + 25 · 2 ^ 1
pub record MeanReadings : Type 0 where
  pub mean_of_two : (mean_next (mean_first 0) 100 2).value ≡ fin false 25 (pos 1)
