-- The walk over a lent list, turn by turn; f tells the entry in a place, and xs are the places behind the first.
-- Assumes nothing.
use mathlib.Core.Path.{◌≡◌, sym, ap, ◌∙◌}
use Prim.Native.Nat.{ℕ, suc, ◌+◌, ◌-◌, ◌≤◌, ◌<◌}
use mathlib.Core.Option.{Option, some}
use mathlib.Core.List.{List, [], ◌∷◌, map}
use native.Mathlib.Omega.{arith}
use borrow.Author.Tests.{lt-ltb, le-ltb}
use lib.ListN.{length, get_or, take, drop}
use lib.Seq.{take-length}
use Rattle.std.proofs.lemmas.List.{at_drop_more, at_drop_all}
use Rattle.entries.specs.declared.Entry.{Entry}
use Rattle.greenwald_khanna_theory.specs.Walk.{walk, look_up}

module _ {A : Type 0} (f : A → Entry) (limit : ℕ) where
  -- it starts behind the first place
  pub begin : (xs : List A) (x : A) (e : Entry) → 0 < length xs → x ≡ get_or xs 0 x → e ≡ f x
      → look_up limit (map f xs) ≡ some (walk limit e.g e.v (map f (take (length xs - 1) (drop 1 xs))))
  unfolding look_up
  begin [] x e h a b = absurd (omega arith)
  begin (y ∷ ys) x e h a b =
      let q : suc (length ys) - 1 ≡ length ys = omega arith in
      rw (q, take-length ys, b, a)

  -- before a place: the walk from there gives r, as the whole does
  module _ (xs : List A) (i : ℕ) (r : Option ℕ) (sum v : ℕ) (h : r ≡ some (walk limit sum v (map f (drop i xs)))) where
    -- at the place: it ends, or goes on
    module _ (x : A) (e : Entry) (b : i < length xs) (at : x ≡ get_or xs i x) (is : e ≡ f x) where
      turn : r ≡ some (walk limit sum v (e ∷ map f (drop (i + 1) xs)))
      turn =
          h
          ∙ at_drop_more (λ l. some (walk limit sum v (map f l))) xs i x b
          ∙ ap (λ (z : Entry). some (walk limit sum v (z ∷ map f (drop (i + 1) xs)))) (sym (is ∙ ap f at))

      pub stop : limit < sum + e.g + e.delta → r ≡ some v
      unfolding walk
      stop past = rw (lt-ltb limit (sum + e.g + e.delta) past) at turn

      pub go : sum + e.g + e.delta ≤ limit → r ≡ some (walk limit (sum + e.g) e.v (map f (drop (i + 1) xs)))
      unfolding walk
      go within = rw (le-ltb limit (sum + e.g + e.delta) within) at turn

    -- no place is left
    pub finish : length xs ≤ i → r ≡ some v
    unfolding walk
    finish b = h ∙ at_drop_all (λ l. some (walk limit sum v (map f l))) xs i b
