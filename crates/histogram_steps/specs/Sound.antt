-- When a histogram is sound: the rules, and the test that the calls make.
-- Assumes nothing: these are definitions.
use Rattle.std.specs.Prelude.{◌≡◌, ℕ, ◌*◌, ◌≤◌, Bool, ◌&&◌, List, leb, eqb, length, Option, Some, None}
use Rattle.entries.specs.Ranks.{Rising}
use Rattle.entries.specs.Total.{total}
use Rattle.histogram_steps.specs.declared.Histogram.{Histogram}
use Rattle.histogram_steps.specs.Bounds.{bounds, allowed}
use Rattle.histogram_steps.specs.State.{observations, largest}

-- the sum of n observations: none exactly at 0, else at most the largest observation for each
abbrev pub SumFits : Option ℕ → ℕ → Type 0
SumFits None n = n ≡ 0
SumFits (Some x) n = (1 ≤ n) × (x ≤ n * largest)

-- the bounds pass the rules of opening; the count is within the limit, is what the counts add up to, and the sum fits it
pub record Sound (h : Histogram) (bs cs : List ℕ) : Type 0 where
  pub some_bounds : 1 ≤ length bs
  pub few_bounds : length bs ≤ bounds
  pub never_fall : Rising 0 bs
  pub few : h.count ≤ observations
  pub adds_up : total cs ≡ h.count
  pub sum_fits : SumFits h.sum h.count

-- the same rules as a test
abbrev pub sum_sound : Option ℕ → ℕ → Bool
sum_sound None n = eqb n 0
sum_sound (Some x) n = leb 1 n && leb x (n * largest)

abbrev pub sound : Histogram → List ℕ → List ℕ → Bool
sound h bs cs = allowed bs && (leb h.count observations && (eqb (total cs) h.count && sum_sound h.sum h.count))
