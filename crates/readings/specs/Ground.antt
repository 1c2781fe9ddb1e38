-- Readings 3, 4 and 11: the band, the place of a value, and inv.
-- Assumes nothing: these are definitions.
use Rattle.std.specs.Prelude.{◌≡◌, [], ◌∷◌}
use Rattle.entries.specs.Place.{place}
use Rattle.fraction.specs.declared.Fraction.{Fraction}
use Rattle.fraction.specs.Band.{band}
use Rattle.fraction.specs.Inv.{inv}

abbrev thousandth : Fraction
thousandth = record { num = 1; den = 1000 }

-- p = 3: band(0) = 2, band(2) = 1, band(3) = 0
pub record Reading3 : Type 0 where
  pub band0 : band 3 0 ≡ 2
  pub band2 : band 3 2 ≡ 1
  pub band3 : band 3 3 ≡ 0

-- 20 into 10 20 20 30 goes to place 3
pub record Reading4 : Type 0 where
  pub place20 : place 20 (10 ∷ 20 ∷ 20 ∷ 30 ∷ []) ≡ 3

-- error 1/1000: inv(0) = 1, inv(998) = 1, inv(1000) = 2
pub record Reading11 : Type 0 where
  pub inv0 : inv thousandth 0 ≡ 1
  pub inv998 : inv thousandth 998 ≡ 1
  pub inv1000 : inv thousandth 1000 ≡ 2
