-- The counts of the bins: how many observations fell into the bins whose bounds are asked for.
-- Assumes nothing: these are definitions.
use Rattle.std.specs.Prelude.{◌≡◌, ℕ, suc, ◌≤◌, Bool, cond, ◌&&◌, List, [], ◌∷◌, length, get_or, set}
use Rattle.entries.specs.Ranks.{Rising}
use Rattle.entries.specs.Total.{total}
use Rattle.histogram_rows.specs.declared.Bound.{Bound}
use Rattle.histogram_rows.specs.declared.Bound.TheVariants.{Finite, PosInf}
use Rattle.histogram_rows.specs.Bounds.{at_most, above, bin_of}

-- the counts of the bins whose bound passes a test: a count for each bound, and one more for +Inf
abbrev pub chosen : (Bound → Bool) → List ℕ → List ℕ → List ℕ
chosen test bs [] = []
chosen test [] (c ∷ cs) = cond (test PosInf) (c ∷ []) []
chosen test (b ∷ bs) (c ∷ cs) = cond (test (Finite b)) (c ∷ chosen test bs cs) (chosen test bs cs)

-- bins with bound ≤ u
abbrev pub total_below : List ℕ → List ℕ → Bound → ℕ
total_below bs cs u = total (chosen (λ b. at_most b u) bs cs)

-- bins with bound > l
abbrev pub total_above : List ℕ → List ℕ → Bound → ℕ
total_above bs cs l = total (chosen (λ b. above b l) bs cs)

-- bins with l < bound ≤ u, and none if l ≥ u
abbrev pub bins_between : List ℕ → List ℕ → Bound → Bound → List ℕ
bins_between bs cs l u = cond (at_most u l) [] (chosen (λ b. above b l && at_most b u) bs cs)

-- their sum
abbrev pub total_between : List ℕ → List ℕ → Bound → Bound → ℕ
total_between bs cs l u = total (bins_between bs cs l u)

-- the counts with one more in the bin of v
abbrev pub counted : List ℕ → List ℕ → ℕ → List ℕ
counted bs cs v = set cs (bin_of bs v) (suc (get_or cs (bin_of bs v) 0))

-- what the work on lists asks: bounds that never fall, a count for each and one more for +Inf, and few enough that their sum fits
pub record Binned (bs cs : List ℕ) : Type 0 where
  pub never_fall : Rising 0 bs
  pub long : length cs ≡ suc (length bs)
  pub few : length cs ≤ 65536
