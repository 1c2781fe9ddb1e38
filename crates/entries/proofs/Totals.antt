-- The sum of a list of numbers: of a part, of two lists, and with one number changed or put in.
-- Assumes nothing.
use mathlib.Core.Path.{◌≡◌, refl, sym, ap, ◌∙◌}
use Prim.Native.Nat.{ℕ, zero, suc, ◌+◌, ◌≤◌, ◌<◌}
use mathlib.Core.List.{List, [], ◌∷◌, ◌++◌, map}
use native.Mathlib.Omega.{arith}
use lib.ListN.{length, get_or, set, take, drop, replicate, take-append-drop}
use lib.Seq.{take-add}
use Rattle.std.specs.List.{sum_by}
use Rattle.std.proofs.lemmas.List.Sums.{sum_by-cons}
use Rattle.entries.specs.declared.Entry.{Entry}
use Rattle.entries.specs.Entry.{sum_g}
use Rattle.entries.specs.Lists.{put_at}
use Rattle.entries.specs.Total.{total}

pub total_append : (xs ys : List ℕ) → total (xs ++ ys) ≡ total xs + total ys
total_append [] ys = omega arith
total_append (x ∷ xs) ys = omega (arith, total_append xs ys)

-- cut in two
pub total_split : (k : ℕ) (xs : List ℕ) → total xs ≡ total (take k xs) + total (drop k xs)
total_split k xs = sym (ap total (take-append-drop k xs)) ∙ total_append (take k xs) (drop k xs)

-- a part, and the next one
pub total_cut : (xs : List ℕ) (a b : ℕ) → total (take (a + b) xs) ≡ total (take a xs) + total (take b (drop a xs))
total_cut xs a b = rw (take-add a b xs) (total_append (take a xs) (take b (drop a xs)))

-- a part adds up to no more than the whole
pub total_take : (k : ℕ) (xs : List ℕ) → total (take k xs) ≤ total xs
total_take k xs = omega (arith, total_split k xs)

pub total_at : (xs : List ℕ) (k : ℕ) → get_or xs k 0 ≤ total xs
total_at [] k = omega arith
total_at (x ∷ xs) zero = omega arith
total_at (x ∷ xs) (suc k) = omega (arith, total_at xs k)

pub total_zeros : (n : ℕ) → total (replicate n 0) ≡ 0
total_zeros zero = refl
total_zeros (suc n) = omega (arith, total_zeros n)

-- one more in one place
pub total_set : (k : ℕ) (xs : List ℕ) → k < length xs → total (set xs k (suc (get_or xs k 0))) ≡ suc (total xs)
total_set k [] h = absurd (omega arith)
total_set zero (x ∷ xs) h = omega arith
total_set (suc k) (x ∷ xs) h = omega (arith, total_set k xs (omega arith))

-- a number put in
pub total_put : (k x : ℕ) (xs : List ℕ) → total (put_at k x xs) ≡ x + total xs
total_put k x xs = omega (arith, total_append (take k xs) (x ∷ drop k xs), total_split k xs)

-- the sum of an iterator over the places of a list, said of their entries
pub sum_by_g : {A : Type 0} (f : A → Entry) (xs : List A) → sum_by (λ x. (f x).g) xs ≡ sum_g (map f xs)
sum_by_g f [] = refl
sum_by_g f (x ∷ xs) = sum_by-cons (λ y. (f y).g) x xs ∙ ap (λ n. (f x).g + n) (sum_by_g f xs)
