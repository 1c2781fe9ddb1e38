-- Parts of a list of entries or rows: what is counted, summed and sorted in a list is so in its parts.
-- Assumes nothing.
use mathlib.Core.Path.{◌≡◌, sym, ap, ◌∙◌}
use Prim.Native.Nat.{ℕ, suc, ◌+◌, ◌≤◌, ◌<◌}
use mathlib.Core.List.{List, [], ◌∷◌}
use native.Mathlib.Omega.{arith}
use lib.ListN.{length, get_or, take, drop, length-map, take-append-drop, drop_of_length-le}
use lib.Seq.{drop-cons}
use Rattle.entries.specs.declared.Entry.{Entry}
use Rattle.entries.specs.Entry.{entry_of, entries_of, zero_entry, values, sum_g}
use Rattle.entries.specs.Ranks.{Rising, below}
use Rattle.entries.proofs.Counting.{below_le_upto, upto_le_length, below_split}
use Rattle.entries.proofs.Maps.{map_take, map_drop, entry_at_lem, values_take, values_drop, sum_append}
use Rattle.entries.proofs.Places.{rising_take, rising_drop}

-- no more are smaller than there are
pub below_le : (vs : List ℕ) (x : ℕ) → below vs x ≤ length vs
below_le vs x = omega (arith, below_le_upto vs x, upto_le_length vs x)

-- the smaller ones before a, and from a on
pub below_cut : (es : List Entry) (a x : ℕ) → below (values es) x ≡ below (values (take a es)) x + below (values (drop a es)) x
below_cut es a x = below_split (values es) a x ∙ rw (map_take (λ (e : Entry). e.v) a es, map_drop (λ (e : Entry). e.v) a es)

-- the g before a, and from a on
pub sum_cut : (es : List Entry) (a : ℕ) → sum_g es ≡ sum_g (take a es) + sum_g (drop a es)
sum_cut es a = sym (ap sum_g (take-append-drop a es)) ∙ sum_append (take a es) (drop a es)

-- what stands behind k sorted entries is sorted
pub sorted_drop : (es : List Entry) (k : ℕ) → Rising 0 (values es) → Rising 0 (values (drop k es))
sorted_drop es k r = rw (map_drop (λ (e : Entry). e.v) k es) (rising_drop 0 (values es) k r)

-- a part of sorted rows is sorted
pub part_sorted : (rows : List (List ℕ)) (from many : ℕ) → Rising 0 (values (entries_of rows))
    → Rising 0 (values (entries_of (take many (drop from rows))))
part_sorted rows from many r =
    rw (values_take many (drop from rows))
    (rising_take 0 (values (entries_of (drop from rows))) many (rw (values_drop from rows) (rising_drop 0 (values (entries_of rows)) from r)))

-- the entry in the row at a place
abbrev pub entry_at : List (List ℕ) → ℕ → Entry
entry_at rows i = entry_of (get_or rows i [])

-- the entries from a place on: the one there and those behind it, or none
pub entries_from : (rows : List (List ℕ)) (i : ℕ) → i < length rows → drop i (entries_of rows) ≡ entry_at rows i ∷ drop (suc i) (entries_of rows)
entries_from rows i h = drop-cons (entries_of rows) i zero_entry (omega (arith, length-map rows entry_of)) ∙ rw (entry_at_lem rows i)

pub entries_end : (rows : List (List ℕ)) (i : ℕ) → length rows ≤ i → drop i (entries_of rows) ≡ []
entries_end rows i h = drop_of_length-le (entries_of rows) {i = i} (omega (arith, length-map rows entry_of))

-- the entries of a part of rows are that part of their entries
pub part_entries : (rows : List (List ℕ)) (from many : ℕ) → entries_of (take many (drop from rows)) ≡ take many (drop from (entries_of rows))
part_entries rows from many = map_take entry_of many (drop from rows) ∙ ap (take many) (map_drop entry_of from rows)
