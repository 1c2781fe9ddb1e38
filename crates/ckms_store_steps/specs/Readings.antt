-- The largest delta of a sound entry, and the first that is too large.
-- Assumes nothing: these are definitions.
use Rattle.std.specs.Prelude.{◌≡◌, true, false, ℕ, [], ◌∷◌}
use Rattle.fraction.specs.declared.Fraction.{Fraction}
use Rattle.entries.specs.Entry.{entry}
use Rattle.ckms_store_steps.specs.declared.Store.{Store}
use Rattle.ckms_store_steps.specs.Sound.{sound}

-- num / den
abbrev pub over : ℕ → ℕ → Fraction
over num den = record { num = num; den = den }

-- a store of one observation, in one block of one
abbrev pub one : Store
one = record { error = over 1 2; n = 1; held = 1; block = 1; blocks = 1 }

-- a delta of 3,999,999,999 is sound, and one more is not
pub record DeltaReadings : Type 0 where
  pub largest_delta : sound one (entry 7 1 3999999999 ∷ []) (1 ∷ []) ≡ true
  pub too_large_a_delta : sound one (entry 7 1 4000000000 ∷ []) (1 ∷ []) ≡ false
