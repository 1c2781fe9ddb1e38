-- Where a value goes in a list of values.
-- Assumes nothing: these are definitions.
use Rattle.std.specs.Prelude.{ℕ, suc, cond, List, [], ◌∷◌, ltb}

-- the first place whose value is greater than x, else the end
unfoldable pub place : ℕ → List ℕ → ℕ
place x [] = 0
place x (v ∷ vs) = cond (ltb x v) 0 (suc (place x vs))
