-- What the calls of the mean promise, on every input.
-- Assumes nothing: these are definitions.
use Rattle.std.specs.Prelude.{◌≡◌, ℕ, ◌≤◌, T}
use Rattle.mean.specs.declared.Mean.{Mean}
use Rattle.mean.specs.Mean.{mean_first, mean_next, finite, in_range}

-- the first mean: the value itself, finite and in the range of the values
pub record FirstPost (v : ℕ) (r : Mean) : Type 0 where
  pub answered : r ≡ mean_first v
  pub is_finite : T (finite r.value)
  pub is_in_range : T (in_range r.value)

-- the next mean: finite from every finite mean, and in the range of the values from every mean that is
pub record NextPost (m : Mean) (v n : ℕ) (r : Mean) : Type 0 where
  pub answered : r ≡ mean_next m v n
  pub stays_finite : 1 ≤ n → T (finite m.value) → T (finite r.value)
  pub stays_in_range : 2 ≤ n → T (in_range m.value) → T (in_range r.value)
