-- The walk of a query.
-- Assumes nothing: these are definitions.
use Rattle.std.specs.Prelude.{ℕ, suc, ◌+◌, ◌*◌, cond, List, [], ◌∷◌, ltb, length}
use Rattle.entries.specs.declared.Entry.{Entry}
use Rattle.ckms_theory.specs.declared.Ranked.{Ranked}

abbrev pub ranked : ℕ → ℕ → Ranked
ranked rank value = record { rank = rank; value = value }

-- the rank answered with the last value, as the Rust has it: the entries held, and not the observations n
abbrev pub last_rank : ℕ → ℕ → ℕ
last_rank held n = held

-- r is the sum of the g of earlier entries, and `before` the value before. The first entry where scale · (r + g + delta) is above the limit ends the walk
unfoldable pub walk : ℕ → ℕ → ℕ → ℕ → ℕ → List Entry → Ranked
walk scale limit held r before [] = ranked (last_rank held r) before
walk scale limit held r before (e ∷ es) = cond (ltb limit (scale * (r + e.g + e.delta))) (ranked r before) (walk scale limit held (r + e.g) e.v es)

-- the walk looks at the second entry first; of nothing nothing is answered
unfoldable pub look_up : ℕ → ℕ → List Entry → Ranked
look_up scale limit [] = ranked 0 0
look_up scale limit (e ∷ es) = walk scale limit (suc (length es)) e.g e.v es
