-- The band of a delta: the whole-number logarithm to base 2 of p - d + 1.
-- Assumes nothing: these are definitions.
use Rattle.std.specs.Prelude.{ℕ, zero, suc, ◌+◌, ◌-◌, ◌/◌}

-- how often n can be halved before it is 1 or less; `most` bounds the count
unfoldable pub halvings : ℕ → ℕ → ℕ
halvings zero n = 0
halvings (suc most) zero = 0
halvings (suc most) (suc zero) = 0
halvings (suc most) (suc (suc n)) = suc (halvings most (suc (suc n) / 2))

-- the logarithm to base 2, rounded down, of a number from 1 up to 2 ^ 65 - 1
abbrev pub log2 : ℕ → ℕ
log2 n = halvings 64 n

abbrev pub band : ℕ → ℕ → ℕ
band p d = log2 (p - d + 1)
