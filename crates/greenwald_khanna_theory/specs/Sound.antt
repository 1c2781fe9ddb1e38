-- Which entries are sound, rule by rule.
-- Assumes nothing: these are definitions.
use Rattle.std.specs.Prelude.{ℕ, ◌+◌, Bool, true, ◌&&◌, List, [], ◌∷◌, leb, eqb}
use Rattle.entries.specs.declared.Entry.{Entry}
use Rattle.entries.specs.Entry.{values, sum_g}
use Rattle.entries.specs.Order.{rising}

-- each g is at least 1, and each g + delta at most p + 1
unfoldable pub each_within : ℕ → List Entry → Bool
each_within p [] = true
each_within p (e ∷ es) = leb 1 e.g && (leb (e.g + e.delta) (p + 1) && each_within p es)

-- the first entry has g = 1 and delta = 0
unfoldable pub first_exact : List Entry → Bool
first_exact [] = true
first_exact (e ∷ es) = eqb e.g 1 && eqb e.delta 0

-- the last entry has delta = 0
unfoldable pub last_exact : List Entry → Bool
last_exact [] = true
last_exact (e ∷ []) = eqb e.delta 0
last_exact (e ∷ f ∷ es) = last_exact (f ∷ es)

-- the entries of a stream of n observations with p = ⌊2εn⌋; that there are none exactly when n is 0 follows from each g ≥ 1 and the sum
unfoldable pub sound_entries : ℕ → ℕ → List Entry → Bool
sound_entries p n es = rising 0 (values es) && (each_within p es && (eqb (sum_g es) n && (first_exact es && last_exact es)))
