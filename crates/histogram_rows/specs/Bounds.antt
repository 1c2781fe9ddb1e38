-- The bounds of a histogram: their order with +Inf, and the bin of a value.
-- Assumes nothing: these are definitions.
use Rattle.std.specs.Prelude.{ℕ, ◌+◌, Bool, true, false, not, cond, List, [], ◌∷◌, leb}
use Rattle.entries.specs.Ranks.{below}
use Rattle.histogram_rows.specs.declared.Bound.{Bound}
use Rattle.histogram_rows.specs.declared.Bound.TheVariants.{Finite, PosInf}

-- b ≤ u: every number is below +Inf, and +Inf equals itself
abbrev pub at_most : Bound → Bound → Bool
at_most (Finite b) (Finite u) = leb b u
at_most (Finite b) PosInf = true
at_most PosInf (Finite u) = false
at_most PosInf PosInf = true

-- l < b
abbrev pub above : Bound → Bound → Bool
above b l = not (at_most b l)

-- how many bins have a bound that is at most u, the bin of +Inf being the last
abbrev pub ending : List ℕ → Bound → ℕ
ending [] u = cond (at_most PosInf u) 1 0
ending (b ∷ bs) u = cond (at_most (Finite b) u) 1 0 + ending bs u

-- the bin of a value: the number of bounds smaller than it
abbrev pub bin_of : List ℕ → ℕ → ℕ
bin_of bs v = below bs v
