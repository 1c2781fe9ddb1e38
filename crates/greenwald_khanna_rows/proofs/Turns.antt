-- One turn of the backward pass over a lent list; f tells the entry in a place.
-- Assumes nothing.
use mathlib.Core.Path.{◌≡◌, sym, ap, ◌∙◌}
use Prim.Native.Nat.{ℕ, zero, suc, ◌+◌, ◌-◌, ◌<◌}
use mathlib.Core.Bool.{true, false, and-eq-true_iff}
use mathlib.Core.List.{List, [], ◌∷◌, map}
use native.Mathlib.Omega.{arith}
use lib.Dec.{ltb, leb}
use lib.ListN.{length, get_or, set}
use borrow.Author.Tests.{ltb-true}
use Rattle.fraction.specs.Band.{band}
use Rattle.entries.specs.declared.Entry.{Entry}
use Rattle.entries.proofs.Maps.{map_set}
use Rattle.greenwald_khanna_theory.specs.Summary.{mergeable}
use Rattle.greenwald_khanna_rows.specs.Compress.{at, joined, TurnPost}

-- what may go is below p
pub goes_below : (p : ℕ) (e nx : Entry) → mergeable p e nx ≡ true → e.g + nx.g + nx.delta < p
unfolding mergeable
goes_below p e nx h =
    ltb-true (e.g + nx.g + nx.delta) p
    ((and-eq-true_iff (ltb (e.g + nx.g + nx.delta) p) (leb (band p e.delta) (band p nx.delta))).0 h).0

module _ {A : Type 0} (f : A → Entry) where
  -- the entry in a place that was read
  entry_read : (xs : List A) (i : ℕ) (x : A) (e : Entry) → i < length xs → x ≡ get_or xs i x → e ≡ f x → at (map f xs) i ≡ e
  entry_read [] i x e h a b = absurd (omega arith)
  entry_read (y ∷ ys) zero x e h a b = sym (b ∙ ap f a)
  entry_read (y ∷ ys) (suc i) x e h a b = entry_read ys i x e (omega arith) a b

  -- a turn, by what the test of the two entries said
  module _ (p i w : ℕ) (xs : List A) (x y : A) (e next : Entry) (order : i < w) (room : w < length xs)
      (x-is : x ≡ get_or xs i x) (e-is : e ≡ f x) (y-is : y ≡ get_or xs w y) (next-is : next ≡ f y) where
    pub goes : (m : A) → f m ≡ joined e next → mergeable p e next ≡ true → TurnPost p i w (map f xs) w (map f (set xs w m))
    goes m k t =
        let a = entry_read xs i x e (omega arith) x-is e-is in
        let b = entry_read xs w y next room y-is next-is in
        record {
          place = rw (a, b, t);
          list = rw (a, b, t) (map_set f xs w m ∙ ap (set (map f xs) w) k);
        }

    pub stays : mergeable p e next ≡ false → TurnPost p i w (map f xs) (w - 1) (map f (set xs (w - 1) x))
    stays t =
        let a = entry_read xs i x e (omega arith) x-is e-is in
        let b = entry_read xs w y next room y-is next-is in
        record {
          place = rw (a, b, t);
          list = rw (a, b, t) (map_set f xs (w - 1) x ∙ ap (set (map f xs) (w - 1)) (sym e-is));
        }
