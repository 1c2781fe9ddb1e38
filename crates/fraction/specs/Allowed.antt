-- Which fractions are allowed: as φ or q, as a stream's ε, as a CKMS error.
-- Assumes nothing: these are definitions.
use Rattle.std.specs.Prelude.{ℕ, ◌*◌, Bool, cond, ◌&&◌, leb, ltb}
use Rattle.fraction.specs.declared.Fraction.{Fraction}

-- the largest denominator, and the most observations
abbrev pub denominators : ℕ
denominators = 65536

abbrev pub observations : ℕ
observations = 1000000000

-- from 0 to 1, both ends allowed
abbrev pub is_phi : Fraction → Bool
is_phi f = leb 1 f.den && (leb f.den denominators && leb f.num f.den)

-- 0 < ε ≤ 1/2
abbrev pub is_epsilon : Fraction → Bool
is_epsilon f = is_phi f && (leb 1 f.num && leb (2 * f.num) f.den)

-- 0 < error < 1
abbrev pub is_error : Fraction → Bool
is_error f = is_phi f && (leb 1 f.num && ltb f.num f.den)

-- a number of allowed arguments, and 0 of any others
abbrev pub within : Bool → ℕ → ℕ
within allowed x = cond allowed x 0
