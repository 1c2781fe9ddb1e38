-- The histogram's record: fresh, and with one observation more.
-- Assumes nothing: these are definitions.
use Rattle.std.specs.Prelude.{ℕ, suc, ◌+◌, Option, Some, None}
use Rattle.histogram_steps.specs.declared.Histogram.{Histogram}

-- the most observations, and the largest one
abbrev pub observations : ℕ
observations = 1000000000

abbrev pub largest : ℕ
largest = 4294967295

-- nothing taken yet
abbrev pub fresh : Histogram
fresh = record { count = 0; sum = None }

-- a sum and one value more
abbrev pub plus : Option ℕ → ℕ → Option ℕ
plus None v = Some v
plus (Some x) v = Some (x + v)

-- the record with the observation v more
abbrev pub taken : Histogram → ℕ → Histogram
taken h v = record { count = suc h.count; sum = plus h.sum v }
