-- A map over a list, against taking, dropping, storing and reading; and what that says of rows and their entries.
-- Assumes nothing.
use mathlib.Core.Path.{◌≡◌, refl, sym, ap, ◌∙◌}
use Prim.Native.Nat.{ℕ, zero, suc, ◌+◌, ◌<◌}
use mathlib.Core.List.{List, [], ◌∷◌, ◌++◌, map, map-append}
use native.Mathlib.Numerals.{add-one}
use native.Mathlib.Omega.{arith}
use lib.ListN.{length, get_or, set, take, drop, replicate, get_or-map, length-map}
use Rattle.entries.specs.declared.Entry.{Entry}
use Rattle.entries.specs.Entry.{row_of, entry_of, rows_of, entries_of, zero_entry, values, sum_g}
use Rattle.entries.specs.Lists.{put_at, layout, cleared}
use Rattle.entries.specs.Promises.{Threes}

module _ {A B : Type 0} (f : A → B) where
  pub map_take : (k : ℕ) (xs : List A) → map f (take k xs) ≡ take k (map f xs)
  map_take zero xs = refl
  map_take (suc k) [] = refl
  map_take (suc k) (x ∷ xs) = ap (λ (l : List B). f x ∷ l) (map_take k xs)

  pub map_drop : (k : ℕ) (xs : List A) → map f (drop k xs) ≡ drop k (map f xs)
  map_drop zero xs = refl
  map_drop (suc k) [] = refl
  map_drop (suc k) (x ∷ xs) = map_drop k xs

  pub map_set : (xs : List A) (k : ℕ) (x : A) → map f (set xs k x) ≡ set (map f xs) k (f x)
  map_set [] k x = refl
  map_set (y ∷ ys) zero x = refl
  map_set (y ∷ ys) (suc k) x = ap (λ (l : List B). f y ∷ l) (map_set ys k x)

  pub map_replicate : (n : ℕ) (x : A) → map f (replicate n x) ≡ replicate n (f x)
  map_replicate zero x = refl
  map_replicate (suc n) x = ap (λ (l : List B). f x ∷ l) (map_replicate n x)

  -- what is said of a lent list of rows is said of their entries
  pub map_put_at : (k : ℕ) (x : A) (xs : List A) → map f (put_at k x xs) ≡ put_at k (f x) (map f xs)
  map_put_at k x xs = simp (map-append, map_take, map_drop)

  pub map_cleared : (z : A) (from to : ℕ) (xs : List A) → map f (cleared z from to xs) ≡ cleared (f z) from to (map f xs)
  map_cleared z from to xs = simp (map-append, map_take, map_drop, map_replicate)

  pub map_layout : (z : A) (es : List A) (most : ℕ) (xs : List A) → map f (layout z es most xs) ≡ layout (f z) (map f es) most (map f xs)
  map_layout z es most xs = simp (map-append, map_drop, map_replicate, length-map)

-- the value in the row at i
pub value_at : (rows : List (List ℕ)) (i : ℕ) → get_or (values (entries_of rows)) i 0 ≡ get_or (get_or rows i []) 0 0
value_at rows i =
    get_or-map (λ (e : Entry). e.v) (entries_of rows) i zero_entry ∙ ap (λ (e : Entry). e.v) (get_or-map entry_of rows i [])

pub entry_at_lem : (rows : List (List ℕ)) (i : ℕ) → get_or (entries_of rows) i zero_entry ≡ entry_of (get_or rows i [])
entry_at_lem rows i = get_or-map entry_of rows i []

pub values_take : (k : ℕ) (rows : List (List ℕ)) → values (entries_of (take k rows)) ≡ take k (values (entries_of rows))
values_take k rows = ap values (map_take entry_of k rows) ∙ map_take (λ (e : Entry). e.v) k (entries_of rows)

pub values_drop : (k : ℕ) (rows : List (List ℕ)) → values (entries_of (drop k rows)) ≡ drop k (values (entries_of rows))
values_drop k rows = ap values (map_drop entry_of k rows) ∙ map_drop (λ (e : Entry). e.v) k (entries_of rows)

-- entries put into rows and taken out again are as they were; and so are rows of three words
pub entries_back : (es : List Entry) → entries_of (rows_of es) ≡ es
entries_back [] = refl
entries_back (e ∷ es) = ap (λ (l : List Entry). e ∷ l) (entries_back es)

row_back : (row : List ℕ) → length row ≡ 3 → row_of (entry_of row) ≡ row
row_back [] h = absurd (omega arith)
row_back (a ∷ []) h = absurd (omega arith)
row_back (a ∷ (b ∷ [])) h = absurd (omega arith)
row_back (a ∷ (b ∷ (c ∷ []))) h = refl
row_back (a ∷ (b ∷ (c ∷ (d ∷ row)))) h = absurd (omega arith)

pub rows_back : (rows : List (List ℕ)) → Threes rows → rows_of (entries_of rows) ≡ rows
rows_back [] t = refl
rows_back (row ∷ rows) t = rw (row_back row t.0, rows_back rows t.1)

-- so two lists of rows with the same entries are the same words
pub same_words : (xs ys : List (List ℕ)) → Threes xs → Threes ys → entries_of xs ≡ entries_of ys → xs ≡ ys
same_words xs ys s t e = sym (rows_back xs s) ∙ ap rows_of e ∙ rows_back ys t

-- sums of g
pub sum_append : (es fs : List Entry) → sum_g (es ++ fs) ≡ sum_g es + sum_g fs
sum_append [] fs = omega arith
sum_append (e ∷ es) fs = omega (arith, sum_append es fs)

-- one more entry in a running sum
sum_suc : (es : List Entry) (i : ℕ) → i < length es → sum_g (take (suc i) es) ≡ sum_g (take i es) + (get_or es i zero_entry).g
sum_suc [] i h = absurd (omega arith)
sum_suc (e ∷ es) zero h = omega arith
sum_suc (e ∷ es) (suc i) h = omega (arith, sum_suc es i (omega arith))

pub sum_more : (es : List Entry) (i : ℕ) → i < length es → sum_g (take (i + 1) es) ≡ sum_g (take i es) + (get_or es i zero_entry).g
sum_more es i h = rw (add-one i) (sum_suc es i h)

-- an entry whose three numbers are 0
pub zero_is : (e : Entry) → (e.v ≡ 0) × (e.g ≡ 0 × e.delta ≡ 0) → e ≡ zero_entry
zero_is e (a, (b, c)) = λ i. record { v = a i; g = b i; delta = c i }
