-- Lent lists: an element put in at a place, and the list after a call that filled and freed places.
-- Assumes nothing: these are definitions.
use Rattle.std.specs.Prelude.{ℕ, ◌-◌, List, ◌∷◌, ◌++◌, length, take, drop, replicate}

-- the list with e put in at place k
abbrev pub put_at : {A : Type 0} → ℕ → A → List A → List A
put_at k e es = take k es ++ e ∷ drop k es

-- the lent list after a call that leaves es held and held `most` at any moment: zeros in the places freed in the call, the others as they were
abbrev pub layout : {A : Type 0} → A → List A → ℕ → List A → List A
layout zero es most list = es ++ (replicate (most - length es) zero ++ drop most list)

-- places `from` up to `to` made zero
abbrev pub cleared : {A : Type 0} → A → ℕ → ℕ → List A → List A
cleared zero from to list = take from list ++ (replicate (to - from) zero ++ drop to list)
