-- The running mean, by the logic's IEEE 754 operations on binary64.
-- Assumes nothing: these are definitions.
use Rattle.std.specs.Prelude.{ℕ, ◌*◌, Bool, true, false, pos, leb, Float}
use Rattle.std.specs.Float.{nan, inf, fin, binary64}
use Rattle.std.specs.Float.Ieee.{up, down, add, sub, div, of_int}
use Rattle.mean.specs.declared.Mean.{Mean}

-- a u32 as an f64: exact, since each is below 2 ^ 53
abbrev pub float : ℕ → Float
float n = of_int binary64 (pos n)

-- the first value is its own mean
abbrev pub mean_first : ℕ → Mean
mean_first v = record { value = float v }

-- s + (v - s) / n, each operation rounded once; n counts the values, v included
abbrev pub mean_next : Mean → ℕ → ℕ → Mean
mean_next m v n = record { value = add binary64 m.value (div binary64 (sub binary64 (float v) m.value) (float n)) }

-- neither an infinity nor a NaN
abbrev pub finite : Float → Bool
finite nan = false
finite (inf s) = false
finite (fin s m e) = true

-- from 0 to 4294967295, the largest u32, with the sign plus
abbrev pub in_range : Float → Bool
in_range nan = false
in_range (inf s) = false
in_range (fin true m e) = false
in_range (fin false m e) = leb (m * up e) (4294967295 * down e)
