-- The quantile's walk.
-- Assumes nothing: these are definitions.
use Rattle.std.specs.Prelude.{ℕ, ◌+◌, cond, List, [], ◌∷◌, ltb}
use Rattle.std.proofs.Math.Option.{Option, none, some}
use Rattle.entries.specs.declared.Entry.{Entry}

-- s is the sum of g so far and v the value before: the first entry where s + g + delta passes the limit ends the walk, and v is the answer
unfoldable pub walk : ℕ → ℕ → ℕ → List Entry → ℕ
walk limit s v [] = v
walk limit s v (e ∷ es) = cond (ltb limit (s + e.g + e.delta)) v (walk limit (s + e.g) e.v es)

-- from the second entry on; an empty summary has no answer
unfoldable pub look_up : ℕ → List Entry → Option ℕ
look_up limit [] = none
look_up limit (f ∷ es) = some (walk limit f.g f.v es)
