-- An entry (v, g, delta) of a summary, the row of three words that it stands in, and what is said of a list of entries.
-- Assumes nothing: these are definitions.
use Rattle.std.specs.Prelude.{ℕ, ◌+◌, List, [], ◌∷◌, map, get_or}
use Rattle.entries.specs.declared.Entry.{Entry}

abbrev pub entry : ℕ → ℕ → ℕ → Entry
entry v g delta = record { v = v; g = g; delta = delta }

-- what a freed slot holds
abbrev pub zero_entry : Entry
zero_entry = entry 0 0 0

-- the row of an entry, and the entry in a row
abbrev pub row_of : Entry → List ℕ
row_of e = e.v ∷ e.g ∷ e.delta ∷ []

abbrev pub entry_of : List ℕ → Entry
entry_of row = entry (get_or row 0 0) (get_or row 1 0) (get_or row 2 0)

abbrev pub rows_of : List Entry → List (List ℕ)
rows_of es = map row_of es

abbrev pub entries_of : List (List ℕ) → List Entry
entries_of rows = map entry_of rows

-- the values, and the sum of the g
abbrev pub values : List Entry → List ℕ
values es = map (λ e. e.v) es

abbrev pub sum_g : List Entry → ℕ
sum_g [] = 0
sum_g (e ∷ es) = e.g + sum_g es
