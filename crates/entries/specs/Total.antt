-- The sum of a list of numbers.
-- Assumes nothing: these are definitions.
use Rattle.std.specs.Prelude.{ℕ, ◌+◌, List, [], ◌∷◌}

-- all of them added up
abbrev pub total : List ℕ → ℕ
total [] = 0
total (x ∷ xs) = x + total xs
