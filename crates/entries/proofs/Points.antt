-- What `partition_point` finds in a sorted list: how many are below a value, or at most it. Said of any elements whose value a function gives.
-- Assumes nothing.
use mathlib.Core.Path.{◌≡◌, refl, sym, ap, ◌∙◌}
use Prim.Native.Nat.{ℕ, zero, suc, ◌+◌, ◌≤◌, ◌<◌}
use mathlib.Core.Bool.{Bool, true, false, cond}
use mathlib.Core.List.{List, [], ◌∷◌, map}
use native.Mathlib.Omega.{arith}
use lib.Dec.{ltb, leb}
use lib.ListN.{length, get_or, length-map}
use Rattle.std.proofs.lemmas.List.{get_or-map}
use Rattle.std.specs.List.Sorted.{IsNonDecreasingBy, IsPartitionPoint}
use Rattle.std.proofs.lemmas.Simd.{map-map}
use Rattle.entries.specs.declared.Entry.{Entry}
use Rattle.entries.specs.Entry.{values}
use Rattle.entries.specs.Ranks.{Rising, below, upto}
use Rattle.entries.proofs.Places.{rising_order}

-- how many pass a test
abbrev pub passing : {X : Type 0} → (X → Bool) → List X → ℕ
passing p [] = 0
passing p (x ∷ xs) = cond (p x) 1 0 + passing p xs

pub passing_point : {X : Type 0} (p : X → Bool) (xs : List X) (i : ℕ) → i ≤ length xs
    → IsPartitionPoint (λ y. p y ≡ true) (λ y. p y ≡ false) xs i → passing p xs ≡ i
passing_point p [] i h (t, f) = omega arith
passing_point p (x ∷ xs) zero h (t, f) =
    rw (f 0 x (omega arith) (omega arith))
    (omega (arith, passing_point p xs 0 (omega arith) (λ k d a b. absurd (omega arith), λ k d a b. f (suc k) d (omega arith) (omega arith))))
passing_point p (x ∷ xs) (suc i) h (t, f) =
    rw (t 0 x (omega arith) (omega arith))
    (omega (arith, passing_point p xs i (omega arith) (λ k d a b. t (suc k) d (omega arith) (omega arith), λ k d a b. f (suc k) d (omega arith) (omega arith))))

pub below_passing : {X : Type 0} (n : X → ℕ) (t : ℕ) (xs : List X) → below (map n xs) t ≡ passing (λ y. ltb (n y) t) xs
below_passing n t [] = refl
below_passing n t (x ∷ xs) = ap (λ (k : ℕ). cond (ltb (n x) t) 1 0 + k) (below_passing n t xs)

pub upto_passing : {X : Type 0} (n : X → ℕ) (t : ℕ) (xs : List X) → upto (map n xs) t ≡ passing (λ y. leb (n y) t) xs
upto_passing n t [] = refl
upto_passing n t (x ∷ xs) = ap (λ (k : ℕ). cond (leb (n x) t) 1 0 + k) (upto_passing n t xs)

-- a sorted list is one on which the library's search may be asked
pub rising_by : {X : Type 0} (n : X → ℕ) (xs : List X) → Rising 0 (map n xs) → IsNonDecreasingBy n xs
rising_by n xs r i j d b h =
    omega (arith, rising_order 0 (map n xs) r i j b (omega (arith, length-map xs n)), get_or-map n xs i d 0 (omega arith), get_or-map n xs j d 0 (omega arith))

-- the values of the entries that places hold
pub values_by : {X : Type 0} (entry : X → Entry) (xs : List X) → values (map entry xs) ≡ map (λ x. (entry x).v) xs
values_by entry xs = map-map (λ e. e.v) entry xs

pub length_values_by : {X : Type 0} (entry : X → Entry) (xs : List X) → length (values (map entry xs)) ≡ length xs
length_values_by entry xs = length-map (map entry xs) (λ e. e.v) ∙ length-map xs entry

-- the value in place i, where s stands there and e is its entry
pub slot_value : {X : Type 0} (entry : X → Entry) (xs : List X) (i : ℕ) (s : X) (e : Entry) → i < length xs → s ≡ get_or xs i s → e ≡ entry s
    → get_or (values (map entry xs)) i 0 ≡ e.v
slot_value entry xs i s e h there is =
    ap (λ (l : List ℕ). get_or l i 0) (values_by entry xs) ∙ get_or-map (λ x. (entry x).v) xs i s 0 h ∙ ap (λ x. (entry x).v) (sym there) ∙ ap (λ (f : Entry). f.v) (sym is)
