-- Document 01's reading 7, and rows beside it which notice slips that it does not.
-- Assumes nothing: these are statements.
use Rattle.std.specs.Prelude.{◌≡◌, [], ◌∷◌, Some}
use Rattle.histogram_rows.specs.declared.Bound.TheVariants.{Finite, PosInf}
use Rattle.histogram_rows.specs.Bins.{total_below, total_above, total_between}
use Rattle.histogram.specs.Runs.{Held, opened, filled}

-- bounds 10, 100 with 99, 100
abbrev pub seven : Held
seven = filled (10 ∷ 100 ∷ []) (opened (10 ∷ 100 ∷ [])) (99 ∷ 100 ∷ [])

pub record HistogramReadings : Type 0 where
  pub case7 : seven.counts ≡ 0 ∷ 2 ∷ 0 ∷ []
  -- its count and sum, and what is between 10 and 100, where "[lower, upper)" would give 0
  pub case7_count : seven.state.count ≡ 2
  pub case7_sum : seven.state.sum ≡ Some 199
  pub case7_between : total_between (10 ∷ 100 ∷ []) seven.counts (Finite 10) (Finite 100) ≡ 2
  -- of equal bounds the first takes the value; one above every bound goes to +Inf
  pub equal_bounds : (filled (5 ∷ 5 ∷ []) (opened (5 ∷ 5 ∷ [])) (5 ∷ 6 ∷ [])).counts ≡ 1 ∷ 0 ∷ 1 ∷ []
  -- +Inf equals itself: all is at most it, and nothing above
  pub inf_below : total_below (5 ∷ []) (3 ∷ 4 ∷ []) PosInf ≡ 7
  pub inf_above : total_above (5 ∷ []) (3 ∷ 4 ∷ []) PosInf ≡ 0
  pub inf_between : total_between (5 ∷ []) (3 ∷ 4 ∷ []) (Finite 5) PosInf ≡ 4
  pub inf_inf : total_between (5 ∷ []) (3 ∷ 4 ∷ []) PosInf PosInf ≡ 0
