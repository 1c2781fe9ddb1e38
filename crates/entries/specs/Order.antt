-- The order of a list of numbers, as a test.
-- Assumes nothing: these are definitions.
use Rattle.std.specs.Prelude.{ℕ, Bool, true, ◌&&◌, List, [], ◌∷◌, leb}

-- no number is smaller than the one before, and the first is at least `low`
abbrev pub rising : ℕ → List ℕ → Bool
rising low [] = true
rising low (x ∷ xs) = leb low x && rising x xs
