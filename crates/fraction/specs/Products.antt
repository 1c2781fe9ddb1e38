-- Whole numbers taken from a fraction: ⌊f·n⌋, p, e and the period. A number divided by 0 is 0.
-- Assumes nothing: these are definitions.
use Rattle.std.specs.Prelude.{ℕ, ◌*◌, ◌/◌}
use Rattle.fraction.specs.declared.Fraction.{Fraction}

-- ⌊f · n⌋
abbrev pub floor_mul : Fraction → ℕ → ℕ
floor_mul f n = f.num * n / f.den

-- p = ⌊2εn⌋: an entry's g + delta is at most p + 1
abbrev pub p_of : Fraction → ℕ → ℕ
p_of ε n = 2 * ε.num * n / ε.den

-- e = ⌊εn⌋: how far from the rank asked for an answer may stand
abbrev pub e_of : Fraction → ℕ → ℕ
e_of ε n = floor_mul ε n

-- ⌊1/(2ε)⌋: after how many observations the stream compresses
abbrev pub period : Fraction → ℕ
period ε = ε.den / (2 * ε.num)
