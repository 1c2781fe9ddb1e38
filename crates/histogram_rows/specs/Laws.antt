-- The statements that are promised of bounds and counts alone; their proofs are in proofs/.
-- Assumes nothing: these are statements.
use Rattle.std.specs.Prelude.{◌≡◌, ℕ, suc, ◌+◌, ◌-◌, ◌≤◌, ◌<◌, true, List, length, get_or, take, drop}
use Rattle.entries.specs.Ranks.{Rising}
use Rattle.histogram_rows.specs.declared.Bound.{Bound}
use Rattle.histogram_rows.specs.Bounds.{at_most, ending, bin_of}
use Rattle.histogram_rows.specs.Bins.{total_below, total_between, bins_between}

-- a value goes to the first bound that is at least as large, else to +Inf
pub record FirstBound (bs : List ℕ) (v : ℕ) : Type 0 where
  pub a_bin : bin_of bs v ≤ length bs
  pub before : (i : ℕ) → i < bin_of bs v → get_or bs i 0 < v
  pub there : bin_of bs v < length bs → v ≤ get_or bs (bin_of bs v) 0

unfoldable pub BinIsFirst : Type 0
BinIsFirst = (bs : List ℕ) (v : ℕ) → Rising 0 bs → FirstBound bs v

-- what is between two bounds is what is below the one and not below the other
unfoldable pub BetweenIsDifference : Type 0
BetweenIsDifference = (bs cs : List ℕ) (l u : Bound) → at_most l u ≡ true → total_below bs cs l + total_between bs cs l u ≡ total_below bs cs u

-- the bins between two bounds are a part of the counts
unfoldable pub BinsAreAPart : Type 0
BinsAreAPart = (bs cs : List ℕ) (l u : Bound) → Rising 0 bs → length cs ≡ suc (length bs)
    → bins_between bs cs l u ≡ take (ending bs u - ending bs l) (drop (ending bs l) cs)
