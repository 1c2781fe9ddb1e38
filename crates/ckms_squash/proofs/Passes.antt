-- A forward pass in place, for any kind of element: the element at k is the current one, those before it are done, those from i on are still to come.
-- F says what is left of the current element and of what is to come. Assumes nothing.
use mathlib.Core.Path.{◌≡◌, sym}
use mathlib.Core.List.{List, [], ◌∷◌, ◌++◌}
use Prim.Native.Nat.{ℕ, suc, ◌≤◌, ◌<◌}
use native.Mathlib.Omega.{arith}
use lib.ListN.{length, get_or, set, take, drop}
use lib.Seq.{take-suc, drop-cons, append_snoc, take-set-le, drop-set-lt, get_or-set_same}

module _ {A : Type 0} (d : A) (F : ℕ → A → List A → List A) (es : List A) (k : ℕ) where
  module _ (i : ℕ) (b : suc k ≤ i) (h : i < length es) where
    -- the next element goes into the current one, which becomes m
    pub taken_in : (m : A) → F i (get_or es k d) (get_or es i d ∷ drop (suc i) es) ≡ F (suc i) m (drop (suc i) es)
        → take k (set es k m) ++ F (suc i) (get_or (set es k m) k d) (drop (suc i) (set es k m)) ≡ take k es ++ F i (get_or es k d) (drop i es)
    taken_in m e =
        rw (take-set-le k es k m (omega arith), get_or-set_same es k m d (omega arith), drop-set-lt (suc i) es k m (omega arith), drop-cons es i d h, e)

    -- the current element is done, and the next one stands behind it
    pub moved_on : F i (get_or es k d) (get_or es i d ∷ drop (suc i) es) ≡ get_or es k d ∷ F (suc i) (get_or es i d) (drop (suc i) es)
        → take (suc k) (set es (suc k) (get_or es i d)) ++ F (suc i) (get_or (set es (suc k) (get_or es i d)) (suc k) d) (drop (suc i) (set es (suc k) (get_or es i d)))
        ≡ take k es ++ F i (get_or es k d) (drop i es)
    moved_on e =
        rw (take-set-le (suc k) es (suc k) (get_or es i d) (omega arith), get_or-set_same es (suc k) (get_or es i d) d (omega arith), drop-set-lt (suc i) es (suc k) (get_or es i d) (omega arith), drop-cons es i d h, e, take-suc es k d (omega arith))
        (append_snoc (take k es) (get_or es k d) (F (suc i) (get_or es i d) (drop (suc i) es)))

  -- nothing is to come
  pub all_done : (i : ℕ) → k < length es → F i (get_or es k d) [] ≡ get_or es k d ∷ [] → take k es ++ F i (get_or es k d) [] ≡ take (suc k) es
  all_done i h e = rw e (sym (take-suc es k d h))
