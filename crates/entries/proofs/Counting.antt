-- The laws of `below` and `upto`: how many members of a list are below a value, and how many are at most it.
-- Assumes nothing.
use mathlib.Core.Path.{◌≡◌, refl, sym, ap, ◌∙◌}
use Prim.Native.Nat.{ℕ, suc, ◌+◌, ◌≤◌, ◌<◌}
use mathlib.Core.Bool.{cond}
use mathlib.Core.List.{List, [], ◌∷◌, ◌++◌}
use native.Mathlib.Omega.{arith}
use lib.ListN.{length, take, drop, take-append-drop}
use lib.Dec.{ltb, leb}
use borrow.Author.Tests.{lt-ltb, le-ltb, le-leb, lt-leb}
use Rattle.entries.proofs.Choose.{by_order}
use Rattle.entries.specs.Ranks.{below, upto}

-- one member's share in each count
abbrev pub is_below : ℕ → ℕ → ℕ
is_below x v = cond (ltb x v) 1 0

abbrev pub is_upto : ℕ → ℕ → ℕ
is_upto x v = cond (leb x v) 1 0

pub below_one : (x v : ℕ) → x < v → is_below x v ≡ 1
below_one x v h = rw (lt-ltb x v h)

pub below_none : (x v : ℕ) → v ≤ x → is_below x v ≡ 0
below_none x v h = rw (le-ltb x v h)

pub upto_one : (x v : ℕ) → x ≤ v → is_upto x v ≡ 1
upto_one x v h = rw (le-leb x v h)

pub upto_none : (x v : ℕ) → v < x → is_upto x v ≡ 0
upto_none x v h = rw (lt-leb x v h)

pub is_below_le_upto : (x v : ℕ) → (is_below x v ≤ is_upto x v) × (is_upto x v ≤ 1)
is_below_le_upto x v =
    by_order x v
    (λ h. omega (arith, below_one x v h, upto_one x v (omega arith)))
    (λ h. by_order v x
    (λ k. omega (arith, below_none x v h, upto_none x v k))
    (λ k. omega (arith, below_none x v h, upto_one x v k)))

pub below_le_upto : (X : List ℕ) (v : ℕ) → below X v ≤ upto X v
below_le_upto [] v = omega arith
below_le_upto (x ∷ xs) v = omega (arith, is_below_le_upto x v, below_le_upto xs v)

pub upto_le_length : (X : List ℕ) (v : ℕ) → upto X v ≤ length X
upto_le_length [] v = omega arith
upto_le_length (x ∷ xs) v = omega (arith, is_below_le_upto x v, upto_le_length xs v)

is_upto_le_below : (x a b : ℕ) → a < b → is_upto x a ≤ is_below x b
is_upto_le_below x a b h =
    by_order a x
    (λ k. omega (arith, upto_none x a k))
    (λ k. omega (arith, upto_one x a k, below_one x b (omega arith)))

-- what is at most a is below anything greater
pub upto_le_below : (X : List ℕ) (a b : ℕ) → a < b → upto X a ≤ below X b
upto_le_below [] a b h = omega arith
upto_le_below (x ∷ xs) a b h = omega (arith, is_upto_le_below x a b h, upto_le_below xs a b h)

is_upto_mono : (x a b : ℕ) → a ≤ b → is_upto x a ≤ is_upto x b
is_upto_mono x a b h =
    by_order a x
    (λ k. omega (arith, upto_none x a k))
    (λ k. omega (arith, upto_one x a k, upto_one x b (omega arith)))

is_below_mono : (x a b : ℕ) → a ≤ b → is_below x a ≤ is_below x b
is_below_mono x a b h =
    by_order x a
    (λ k. omega (arith, below_one x a k, below_one x b (omega arith)))
    (λ k. omega (arith, below_none x a k))

pub upto_mono : (X : List ℕ) (a b : ℕ) → a ≤ b → upto X a ≤ upto X b
upto_mono [] a b h = omega arith
upto_mono (x ∷ xs) a b h = omega (arith, is_upto_mono x a b h, upto_mono xs a b h)

pub below_mono : (X : List ℕ) (a b : ℕ) → a ≤ b → below X a ≤ below X b
below_mono [] a b h = omega arith
below_mono (x ∷ xs) a b h = omega (arith, is_below_mono x a b h, below_mono xs a b h)

-- at most v is the same as below the number after it
one_upto : (x v : ℕ) → is_upto x v ≡ is_below x (suc v)
one_upto x v =
    by_order v x
    (λ h. omega (arith, upto_none x v h, below_none x (suc v) h))
    (λ h. omega (arith, upto_one x v h, below_one x (suc v) (omega arith)))

pub upto_is_below : (X : List ℕ) (v : ℕ) → upto X v ≡ below X (suc v)
upto_is_below [] v = refl
upto_is_below (x ∷ xs) v = omega (arith, one_upto x v, upto_is_below xs v)

pub below_append : (X Y : List ℕ) (v : ℕ) → below (X ++ Y) v ≡ below X v + below Y v
below_append [] Y v = omega arith
below_append (x ∷ xs) Y v = omega (arith, below_append xs Y v)

pub below_split : (X : List ℕ) (k v : ℕ) → below X v ≡ below (take k X) v + below (drop k X) v
below_split X k v = sym (ap (λ (l : List ℕ). below l v) (take-append-drop k X)) ∙ below_append (take k X) (drop k X) v

pub upto_append : (X Y : List ℕ) (v : ℕ) → upto (X ++ Y) v ≡ upto X v + upto Y v
upto_append [] Y v = omega arith
upto_append (x ∷ xs) Y v = omega (arith, upto_append xs Y v)

-- one more observation, at the end of the list
module _ (X : List ℕ) (x v : ℕ) where
  pub below_more : below (X ++ x ∷ []) v ≡ below X v + is_below x v
  below_more = omega (arith, below_append X (x ∷ []) v)

  pub upto_more : upto (X ++ x ∷ []) v ≡ upto X v + is_upto x v
  upto_more = omega (arith, upto_append X (x ∷ []) v)
