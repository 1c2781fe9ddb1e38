-- The bridge from counts to ranks: where at most `below X v` members come before and `upto X v` reach it, v stands at that rank of sorted X.
-- Assumes nothing.
use mathlib.Core.Path.{◌≡◌, refl, ap}
use Prim.Native.Nat.{ℕ, zero, suc, ◌+◌, ◌-◌, ◌≤◌, ◌<◌}
use mathlib.Core.List.{List, [], ◌∷◌}
use native.Mathlib.Omega.{arith}
use lib.ListN.{length, get_or}
use Rattle.entries.proofs.Choose.{lt-cases, by_order}
use Rattle.entries.specs.Ranks.{sort_in, sort, Rising, StandsAt, below, upto, Member, Sorts}
use Rattle.entries.proofs.Counting.{is_below, is_upto, below_one, below_none, upto_one, upto_none}
use Rattle.entries.proofs.Counting.{is_below_le_upto, below_le_upto, upto_le_length}

-- sorting keeps the counts and the length, and sorts

sort_in_below : (x : ℕ) (ys : List ℕ) (v : ℕ) → below (sort_in x ys) v ≡ is_below x v + below ys v
unfolding sort_in
sort_in_below x [] v = refl
sort_in_below x (y ∷ ys) v =
    lt-cases (λ (l : List ℕ). below l v ≡ is_below x v + below (y ∷ ys) v) x y (λ h. refl) (λ h. omega (arith, sort_in_below x ys v))

sort_in_upto : (x : ℕ) (ys : List ℕ) (v : ℕ) → upto (sort_in x ys) v ≡ is_upto x v + upto ys v
unfolding sort_in
sort_in_upto x [] v = refl
sort_in_upto x (y ∷ ys) v =
    lt-cases (λ (l : List ℕ). upto l v ≡ is_upto x v + upto (y ∷ ys) v) x y (λ h. refl) (λ h. omega (arith, sort_in_upto x ys v))

sort_in_length : (x : ℕ) (ys : List ℕ) → length (sort_in x ys) ≡ suc (length ys)
unfolding sort_in
sort_in_length x [] = refl
sort_in_length x (y ∷ ys) = lt-cases (λ (l : List ℕ). length l ≡ suc (suc (length ys))) x y (λ h. refl) (λ h. ap suc (sort_in_length x ys))

sort_in_rising : (low x : ℕ) (ys : List ℕ) → low ≤ x → Rising low ys → Rising low (sort_in x ys)
unfolding sort_in
sort_in_rising low x [] h r = (h, tt)
sort_in_rising low x (y ∷ ys) h r =
    lt-cases (Rising low) x y (λ k. (h, (omega arith, r.1))) (λ k. (r.0, sort_in_rising y x ys k r.1))

pub sort_below : (X : List ℕ) (v : ℕ) → below (sort X) v ≡ below X v
unfolding sort
sort_below [] v = refl
sort_below (x ∷ xs) v = omega (arith, sort_in_below x (sort xs) v, sort_below xs v)

pub sort_upto : (X : List ℕ) (v : ℕ) → upto (sort X) v ≡ upto X v
unfolding sort
sort_upto [] v = refl
sort_upto (x ∷ xs) v = omega (arith, sort_in_upto x (sort xs) v, sort_upto xs v)

pub sort_length : (X : List ℕ) → length (sort X) ≡ length X
unfolding sort
sort_length [] = refl
sort_length (x ∷ xs) = omega (arith, sort_in_length x (sort xs), sort_length xs)

pub sort_rising : (X : List ℕ) → Rising 0 (sort X)
unfolding sort
sort_rising [] = tt
sort_rising (x ∷ xs) = sort_in_rising 0 x (sort xs) (omega arith) (sort_rising xs)

-- in a list that never falls: nothing is below its bound, and nothing at most what is below its bound
pub none_below : (low : ℕ) (ys : List ℕ) (v : ℕ) → Rising low ys → v ≤ low → below ys v ≡ 0
none_below low [] v r h = refl
none_below low (y ∷ ys) v r h = omega (arith, below_none y v (omega arith), none_below y ys v r.1 (omega arith))

pub none_upto : (low : ℕ) (ys : List ℕ) (v : ℕ) → Rising low ys → v < low → upto ys v ≡ 0
none_upto low [] v r h = refl
none_upto low (y ∷ ys) v r h = omega (arith, upto_none y v (omega arith), none_upto y ys v r.1 (omega arith))

at_index : (low : ℕ) (ys : List ℕ) (v j : ℕ) → Rising low ys → below ys v ≤ j → j < upto ys v → get_or ys j 0 ≡ v
at_index low [] v j r b u = absurd (omega arith)
at_index low (y ∷ ys) v zero r b u =
    by_order y v
    (λ h. absurd (omega (arith, below_one y v h)))
    (λ h. by_order v y
    (λ k. absurd (omega (arith, none_upto y ys v r.1 k, upto_none y v k)))
    (λ k. omega arith))
at_index low (y ∷ ys) v (suc j) r b u =
    by_order y v
    (λ h. at_index y ys v j r.1 (omega (arith, below_one y v h)) (omega (arith, upto_one y v (omega arith))))
    (λ h. by_order v y
    (λ k. absurd (omega (arith, none_upto y ys v r.1 k, upto_none y v k)))
    (λ k. at_index y ys v j r.1 (omega (arith, none_below y ys v r.1 h)) (omega (arith, upto_one y v k))))

-- the bridge
pub stands : (X : List ℕ) (v k : ℕ) → below X v < k → k ≤ upto X v → StandsAt X k v
stands X v k b u = record {
  from_one = omega arith;
  in_list = omega (arith, upto_le_length X v);
  there =
      at_index 0 (sort X) v (k - 1) (sort_rising X) (omega (arith, sort_below X v)) (omega (arith, sort_upto X v));
}

-- and back
index_counts : (low : ℕ) (ys : List ℕ) (v j : ℕ) → Rising low ys → j < length ys → get_or ys j 0 ≡ v → (below ys v ≤ j) × (j < upto ys v) × (low ≤ v)
index_counts low [] v j r h e = absurd (omega arith)
index_counts low (y ∷ ys) v zero r h e =
    (omega (arith, none_below y ys v r.1 (omega arith), below_none y v (omega arith)), omega (arith, upto_one y v (omega arith)), omega arith)
index_counts low (y ∷ ys) v (suc j) r h e =
    let ih : (below ys v ≤ j) × (j < upto ys v) × (y ≤ v) = index_counts y ys v j r.1 (omega arith) e in
    by_order y v
    (λ k. (omega (arith, below_one y v k), omega (arith, upto_one y v (omega arith)), omega arith))
    (λ k. (omega (arith, below_none y v k), omega (arith, upto_one y v (omega arith)), omega arith))

pub stands_counts : (X : List ℕ) (v k : ℕ) → StandsAt X k v → (below X v < k) × (k ≤ upto X v)
stands_counts X v k s =
    let c : (below (sort X) v ≤ k - 1) × (k - 1 < upto (sort X) v) × (0 ≤ v) =
    index_counts 0 (sort X) v (k - 1) (sort_rising X) (omega (arith, sort_length X)) s.there in
    (omega (arith, sort_below X v), omega (arith, sort_upto X v))

pub sort_sorts : (X : List ℕ) → Sorts X (sort X)
sort_sorts X = record { rising = sort_rising X; long = sort_length X; counts = λ v. (sort_below X v, sort_upto X v) }

-- what stands at a rank is a member
counted_member : (X : List ℕ) (v : ℕ) → below X v < upto X v → Member X v
counted_member [] v h = absurd (omega arith)
counted_member (x ∷ xs) v h =
    by_order x v
    (λ l. more (counted_member xs v (omega (arith, below_one x v l, upto_one x v (omega arith)))))
    (λ l. by_order v x
    (λ k. more (counted_member xs v (omega (arith, below_none x v l, upto_none x v k))))
    (λ k. (0, omega arith, omega arith)))
  where
    more : Member xs v → Member (x ∷ xs) v
    more m = (suc m.0, omega arith, m.2)

pub stands_member : (X : List ℕ) (v k : ℕ) → StandsAt X k v → Member X v
stands_member X v k s = counted_member X v (omega (arith, stands_counts X v k s))

-- a member is at most itself, and not below itself
pub member_counted : (X : List ℕ) (v i : ℕ) → i < length X → get_or X i 0 ≡ v → below X v < upto X v
member_counted [] v i h e = absurd (omega arith)
member_counted (x ∷ xs) v zero h e = omega (arith, below_none x v (omega arith), upto_one x v (omega arith), below_le_upto xs v)
member_counted (x ∷ xs) v (suc i) h e = omega (arith, is_below_le_upto x v, member_counted xs v i (omega arith) e)
