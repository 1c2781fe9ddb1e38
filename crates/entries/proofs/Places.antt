-- The laws of `place` and of `below` over sorted lists: what a scan finds, and how many are smaller.
-- Assumes nothing.
use mathlib.Core.Path.{◌≡◌, refl, ap}
use Prim.Native.Nat.{ℕ, zero, suc, ◌+◌, ◌-◌, ◌≤◌, ◌<◌}
use mathlib.Core.Bool.{cond}
use mathlib.Core.List.{List, [], ◌∷◌}
use native.Mathlib.Omega.{arith}
use native.Mathlib.Numerals.{add-one}
use borrow.Author.Tests.{lt-ltb, le-ltb}
use lib.Dec.{ltb}
use lib.ListN.{length, get_or, take, drop, length-take, length-drop, drop_of_length-le}
use lib.Seq.{take_all, drop-cons}
use Rattle.entries.specs.Place.{place}
use Rattle.entries.specs.Ranks.{Rising, below, upto}
use Rattle.entries.proofs.Choose.{lt-cases, by_order}
use Rattle.entries.proofs.Counting.{below_one, below_le_upto, upto_le_length, below_split, upto_one, upto_none}
use Rattle.entries.proofs.Sorting.{none_below, none_upto}

pub place_le : (x : ℕ) (vs : List ℕ) → place x vs ≤ length vs
unfolding place
place_le x [] = omega arith
place_le x (v ∷ vs) = lt-cases (λ (n : ℕ). n ≤ suc (length vs)) x v (λ h. omega arith) (λ h. omega (arith, place_le x vs))

-- a value greater than x ends the search: the rest of the list plays no part
pub place_front : (x : ℕ) (vs : List ℕ) (k : ℕ) → k < length vs → x < get_or vs k 0 → place x (take k vs) ≡ place x vs
unfolding place
place_front x [] k h g = absurd (omega arith)
place_front x (v ∷ vs) zero h g = simp (lt-ltb x v g)
place_front x (v ∷ vs) (suc k) h g = ap (λ (n : ℕ). cond (ltb x v) 0 (suc n)) (place_front x vs k (omega arith) g)

-- values that are not greater than x are passed
pub place_passed : (x : ℕ) (vs : List ℕ) (k : ℕ) → k ≤ length vs → ((i : ℕ) → i < k → get_or vs i 0 ≤ x) → k + place x (drop k vs) ≡ place x vs
unfolding place
place_passed x vs zero h g = omega arith
place_passed x [] (suc k) h g = absurd (omega arith)
place_passed x (v ∷ vs) (suc k) h g =
    simp (le-ltb x v (g 0 (omega arith))) (omega (arith, place_passed x vs k (omega arith) (λ i b. g (suc i) (omega arith))))

-- what a scan finds at i, where the places before i are passed: here, one further on, or the end
module _ (x : ℕ) (vs : List ℕ) (i : ℕ) where
  pub place_found : i < length vs → x < get_or vs i 0 → i + place x (drop i vs) ≡ place x vs → i ≡ place x vs
  unfolding place
  place_found h g e = omega (arith, rw (drop-cons vs i 0 h, lt-ltb x (get_or vs i 0) g) at e)

  pub place_next : i < length vs → get_or vs i 0 ≤ x → i + place x (drop i vs) ≡ place x vs → i + 1 + place x (drop (i + 1) vs) ≡ place x vs
  unfolding place
  place_next h g e = rw (add-one i) (omega (arith, rw (drop-cons vs i 0 h, le-ltb x (get_or vs i 0) g) at e))

  pub place_end : length vs ≤ i → i + place x (drop i vs) ≡ place x vs → i ≡ place x vs
  unfolding place
  place_end h e = omega (arith, rw (drop_of_length-le vs h) at e)

-- sorted: each value is at least the bound, and at most every later one
pub rising_least : (low : ℕ) (vs : List ℕ) → Rising low vs → (j : ℕ) → j < length vs → low ≤ get_or vs j 0
rising_least low [] r j h = absurd (omega arith)
rising_least low (v ∷ vs) r zero h = r.0
rising_least low (v ∷ vs) r (suc j) h = omega (arith, rising_least v vs r.1 j (omega arith))

pub rising_order : (low : ℕ) (vs : List ℕ) → Rising low vs → (i j : ℕ) → i ≤ j → j < length vs → get_or vs i 0 ≤ get_or vs j 0
rising_order low [] r i j b h = absurd (omega arith)
rising_order low (v ∷ vs) r zero zero b h = omega arith
rising_order low (v ∷ vs) r zero (suc j) b h = rising_least v vs r.1 j (omega arith)
rising_order low (v ∷ vs) r (suc i) zero b h = absurd (omega arith)
rising_order low (v ∷ vs) r (suc i) (suc j) b h = rising_order v vs r.1 i j (omega arith) (omega arith)

-- a bound that is lower serves too
pub rising_lower : (low high : ℕ) (vs : List ℕ) → low ≤ high → Rising high vs → Rising low vs
rising_lower low high [] h r = tt
rising_lower low high (v ∷ vs) h r = (omega arith, r.1)

pub rising_take : (low : ℕ) (vs : List ℕ) (k : ℕ) → Rising low vs → Rising low (take k vs)
rising_take low vs zero r = tt
rising_take low [] (suc k) r = tt
rising_take low (v ∷ vs) (suc k) r = (r.0, rising_take v vs k r.1)

pub rising_drop : (low : ℕ) (vs : List ℕ) (k : ℕ) → Rising low vs → Rising low (drop k vs)
rising_drop low vs zero r = r
rising_drop low [] (suc k) r = tt
rising_drop low (v ∷ vs) (suc k) r = rising_lower low v (drop k vs) r.0 (rising_drop v vs k r.1)

-- a part that runs to the end, as the code's `&s[k..]` is given
pub part_end : {A : Type 0} (xs : List A) (k : ℕ) → take (length xs - k) (drop k xs) ≡ drop k xs
part_end xs k = take_all (length xs - k) (drop k xs) (omega (arith, length-drop k xs))

-- up to a value that is smaller than x all are smaller, and from one that is not smaller none is
all_smaller_suc : (low : ℕ) (vs : List ℕ) (k x : ℕ) → k < length vs → Rising low vs → get_or vs k 0 < x → below (take (suc k) vs) x ≡ suc k
all_smaller_suc low [] k x h r g = absurd (omega arith)
all_smaller_suc low (v ∷ vs) zero x h r g = omega (arith, below_one v x g)
all_smaller_suc low (v ∷ vs) (suc k) x h r g =
    omega (arith, below_one v x (omega (arith, rising_least v vs r.1 k (omega arith))), all_smaller_suc v vs k x (omega arith) r.1 g)

pub all_smaller : (low : ℕ) (vs : List ℕ) (k x : ℕ) → k < length vs → Rising low vs → get_or vs k 0 < x → below (take (k + 1) vs) x ≡ k + 1
all_smaller low vs k x h r g = rw (add-one k) (all_smaller_suc low vs k x h r g)

pub none_smaller : (low : ℕ) (vs : List ℕ) (k x : ℕ) → k < length vs → Rising low vs → x ≤ get_or vs k 0 → below (drop k vs) x ≡ 0
none_smaller low [] k x h r g = absurd (omega arith)
none_smaller low (v ∷ vs) zero x h r g = none_below x (v ∷ vs) x (g, r.1) (omega arith)
none_smaller low (v ∷ vs) (suc k) x h r g = none_smaller v vs k x (omega arith) r.1 g

-- the count of the smaller ones is the first place that is not smaller
module _ (vs : List ℕ) (x : ℕ) (r : Rising 0 vs) where
  pub below_before : (i : ℕ) → i < below vs x → get_or vs i 0 < x
  below_before i h =
      let l : i < length vs = omega (arith, below_le_upto vs x, upto_le_length vs x) in
      by_order (get_or vs i 0) x (λ k. k)
      (λ k. absurd (omega (
        arith,
        none_smaller 0 vs i x l r k,
        below_split vs i x,
        below_le_upto (take i vs) x,
        upto_le_length (take i vs) x,
        length-take i vs,
      )))

  pub below_there : below vs x < length vs → x ≤ get_or vs (below vs x) 0
  below_there h =
      by_order (get_or vs (below vs x) 0) x
      (λ k. absurd (omega (arith, all_smaller 0 vs (below vs x) x h r k, below_split vs (below vs x + 1) x))) (λ k. k)

-- the place is the count of those at most x
pub place_counts : (low x : ℕ) (vs : List ℕ) → Rising low vs → place x vs ≡ upto vs x
unfolding place
place_counts low x [] r = refl
place_counts low x (v ∷ vs) r =
    lt-cases (λ (n : ℕ). n ≡ upto (v ∷ vs) x) x v
    (λ h. omega (arith, upto_none v x h, none_upto v vs x r.1 h))
    (λ h. omega (arith, upto_one v x h, place_counts v x vs r.1))
