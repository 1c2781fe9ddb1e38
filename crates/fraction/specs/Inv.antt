-- The CKMS's inv(x) = max(1, ⌊2 · error · x⌋), at a whole x and at x = q · n.
-- Assumes nothing: these are definitions.
use Rattle.std.specs.Prelude.{ℕ, ◌*◌, ◌/◌, max}
use Rattle.fraction.specs.declared.Fraction.{Fraction}

abbrev pub inv : Fraction → ℕ → ℕ
inv error x = max 1 (2 * error.num * x / error.den)

abbrev pub inv_at : Fraction → Fraction → ℕ → ℕ
inv_at error q n = max 1 (2 * error.num * q.num * n / (error.den * q.den))
