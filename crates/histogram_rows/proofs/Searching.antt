-- What the library says of a sorted list of bounds: its test of the order, and the place that its search finds.
-- Assumes nothing.
use mathlib.Core.Path.{◌≡◌, refl, sym}
use Prim.Native.Nat.{ℕ, zero, suc, ◌+◌, ◌≤◌, ◌<◌}
use mathlib.Core.Bool.{Bool, true, false, cond}
use mathlib.Core.List.{List, [], ◌∷◌}
use native.Mathlib.Omega.{arith}
use lib.Dec.{ltb, leb}
use lib.ListN.{length, get_or}
use Rattle.std.specs.Bool.{MatchBool}
use Rattle.std.specs.Ordering.{is_le, is_some_and, nat_cmp}
use Rattle.std.specs.List.{IsAllAdjacentAnswer}
use Rattle.std.specs.List.Sorted.{IsNonDecreasing, IsPartitionPoint}
use Rattle.std.proofs.Common.{Some}
use Rattle.std.proofs.lemmas.List.Sorted.{non_decreasing_from_is_sorted}
use Rattle.std.proofs.lemmas.List.{get_or_default}
use Rattle.entries.specs.Order.{rising}
use Rattle.entries.specs.Ranks.{Rising, below, upto}
use Rattle.entries.proofs.Order.{rising_means, rising_holds}
use Rattle.entries.proofs.Places.{rising_order}

-- bounds that never fall, as the library says it
pub never_falls : (bs : List ℕ) → Rising 0 bs → IsNonDecreasing bs
never_falls bs r i j d b h = omega (arith, rising_order 0 bs r i j b h, get_or_default bs i d 0 (omega arith), get_or_default bs j d 0 h)

rises : (low : ℕ) (bs : List ℕ) → ((d : ℕ) → 0 < length bs → low ≤ get_or bs 0 d) → IsNonDecreasing bs → Rising low bs
rises low [] a n = tt
rises low (b ∷ bs) a n =
    (a 0 (omega arith), rises b bs (λ d h. n 0 1 d (omega arith) (omega arith)) (λ i j d h k. n (suc i) (suc j) d (omega arith) (omega arith)))

-- the library's test of the order
pub rising_is : (bs : List ℕ) (r : Bool) → IsAllAdjacentAnswer (λ x y b. is_some_and is_le (Some (nat_cmp x y)) ≡ b) bs r → r ≡ rising 0 bs
rising_is bs r a = go r (non_decreasing_from_is_sorted bs r a)
  where
    go : (r : Bool) → MatchBool r (IsNonDecreasing bs) ((k : ℕ) × (k + 1 < length bs) × ((d : ℕ) → get_or bs (k + 1) d < get_or bs k d)) → r ≡ rising 0 bs
    go true n = sym (rising_holds 0 bs (rises 0 bs (λ d h. omega arith) n))
    go false w = fails (rising 0 bs) refl
      where
        fails : (s : Bool) → rising 0 bs ≡ s → false ≡ s
        fails false e = refl
        fails true e = absurd (omega (arith, w.2 0, rising_order 0 bs (rising_means 0 bs e) w.0 (w.0 + 1) (omega arith) w.1))

-- the place that the search finds is the number of those that pass its test
module _ (test : ℕ → Bool) (many : List ℕ → ℕ) (none : many [] ≡ 0) (more : (x : ℕ) (xs : List ℕ) → many (x ∷ xs) ≡ cond (test x) 1 0 + many xs) where
  point_counts : (xs : List ℕ) (i : ℕ) → i ≤ length xs → IsPartitionPoint (λ y. test y ≡ true) (λ y. test y ≡ false) xs i → i ≡ many xs
  point_counts [] i h p = omega (arith, none)
  point_counts (x ∷ xs) zero h p =
      let t : test x ≡ false = p.1 0 0 (omega arith) (omega arith) in
      let rest : 0 ≡ many xs = point_counts xs 0 (omega arith) ((λ k d a b. absurd (omega arith)), (λ k d a b. p.1 (suc k) d (omega arith) (omega arith))) in
      omega (arith, rw t at (more x xs))
  point_counts (x ∷ xs) (suc i) h p =
      let t : test x ≡ true = p.0 0 0 (omega arith) (omega arith) in
      let rest : i ≡ many xs =
      point_counts xs i (omega arith) ((λ k d a b. p.0 (suc k) d (omega arith) (omega arith)), (λ k d a b. p.1 (suc k) d (omega arith) (omega arith))) in
      omega (arith, rw t at (more x xs))

pub point_below : (v : ℕ) (xs : List ℕ) (i : ℕ) → i ≤ length xs → IsPartitionPoint (λ y. ltb y v ≡ true) (λ y. ltb y v ≡ false) xs i → i ≡ below xs v
point_below v = point_counts (λ y. ltb y v) (λ xs. below xs v) refl (λ x xs. refl)

pub point_upto : (v : ℕ) (xs : List ℕ) (i : ℕ) → i ≤ length xs → IsPartitionPoint (λ y. leb y v ≡ true) (λ y. leb y v ≡ false) xs i → i ≡ upto xs v
point_upto v = point_counts (λ y. leb y v) (λ xs. upto xs v) refl (λ x xs. refl)
