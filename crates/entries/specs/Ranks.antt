-- Sorted lists of numbers, the ranks of a value in one, and the same by counting.
-- Assumes nothing: these are definitions.
use Rattle.std.specs.Prelude.{◌≡◌, ℕ, ◌+◌, ◌-◌, ◌≤◌, ◌<◌, cond, List, [], ◌∷◌, length, get_or, ltb, leb}

-- the values never fall, and the first is at least `low`
abbrev pub Rising : ℕ → List ℕ → Type 0
Rising low [] = Unit {0}
Rising low (x ∷ xs) = (low ≤ x) × Rising x xs

-- x put into a sorted list, and so a list sorted
unfoldable pub sort_in : ℕ → List ℕ → List ℕ
sort_in x [] = x ∷ []
sort_in x (y ∷ ys) = cond (ltb x y) (x ∷ y ∷ ys) (y ∷ sort_in x ys)

unfoldable pub sort : List ℕ → List ℕ
sort [] = []
sort (x ∷ xs) = sort_in x (sort xs)

-- v stands at rank k of X in sorted order; the first rank is 1, and equal values hold every rank of their run
pub record StandsAt (X : List ℕ) (k v : ℕ) : Type 0 where
  pub from_one : 1 ≤ k
  pub in_list : k ≤ length X
  pub there : get_or (sort X) (k - 1) 0 ≡ v

-- how many members of X are below v, and how many are at most v
abbrev pub below : List ℕ → ℕ → ℕ
below [] v = 0
below (x ∷ xs) v = cond (ltb x v) 1 0 + below xs v

abbrev pub upto : List ℕ → ℕ → ℕ
upto [] v = 0
upto (x ∷ xs) v = cond (leb x v) 1 0 + upto xs v

-- v is one of X
abbrev pub Member : List ℕ → ℕ → Type 0
Member X v = (i : ℕ) × (i < length X) × (get_or X i 0 ≡ v)

-- what makes Y the sorted X: it never falls, is as long, and has as many members below and up to each value
pub record Sorts (X Y : List ℕ) : Type 0 where
  pub rising : Rising 0 Y
  pub long : length Y ≡ length X
  pub counts : (v : ℕ) → (below Y v ≡ below X v) × (upto Y v ≡ upto X v)
