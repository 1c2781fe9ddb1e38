-- What is proved about the definitions and the contracts of the mean: the contract of `promises` says this record.
-- Assumes nothing: these are definitions.
use Rattle.std.specs.Prelude.{◌≡◌, ℕ}
use Rattle.mean.specs.declared.Mean.{Mean}
use Rattle.mean.specs.Posts.{FirstPost, NextPost}
use Rattle.mean.specs.Readings.{MeanReadings}

pub record MeanPromises : Type 0 where
  -- any two outcomes that a contract allows coincide
  pub one_first : (v : ℕ) (r s : Mean) → FirstPost v r → FirstPost v s → r ≡ s
  pub one_next : (m : Mean) (v n : ℕ) (r s : Mean) → NextPost m v n r → NextPost m v n s → r ≡ s
  pub readings : MeanReadings
