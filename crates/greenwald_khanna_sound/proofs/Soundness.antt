-- The test of soundness: the two ends, and one pass over a lent list for the other rules; f tells the entry in a place.
-- Assumes nothing.
use mathlib.Core.Path.{◌≡◌, sym, ap, ◌∙◌}
use Prim.Native.Nat.{ℕ, suc, ◌+◌, ◌-◌, ◌≤◌, ◌<◌}
use mathlib.Core.Bool.{Bool, false, true, ◌&&◌, and-true, and-false}
use mathlib.Core.List.{List, [], ◌∷◌, map}
use native.Mathlib.Nat.{add_assoc, zero-add, add-zero}
use native.Mathlib.Omega.{arith}
use borrow.Author.Tests.{lt-leb, le-leb}
use lib.Dec.{eqb}
use lib.ListN.{length, get_or, drop}
use Rattle.std.specs.List.{slice_get}
use Rattle.std.specs.Option.{MatchOption}
use Rattle.std.specs.Bool.{IsTrue}
use Rattle.std.proofs.lemmas.List.{at_drop_more, at_drop_all}
use Rattle.entries.specs.declared.Entry.{Entry}
use Rattle.entries.specs.Entry.{values, sum_g}
use Rattle.entries.specs.Order.{rising}
use Rattle.greenwald_khanna_theory.specs.Sound.{each_within, first_exact, last_exact, sound_entries}

-- r is what one end says, where there is one
abbrev pub FirstSays : {A : Type 0} → (A → Entry) → List A → Bool → Type 0
FirstSays f xs r = MatchOption (slice_get xs 0) (IsTrue r) (λ x. r ≡ (eqb (f x).g 1 && eqb (f x).delta 0))

abbrev pub LastSays : {A : Type 0} → (A → Entry) → List A → Bool → Type 0
LastSays f xs r = MatchOption (slice_get xs (length xs - 1)) (IsTrue r) (λ x. r ≡ eqb (f x).delta 0)

module _ {A : Type 0} (f : A → Entry) where
  pub first_says : (xs : List A) (r : Bool) → FirstSays f xs r → r ≡ first_exact (map f xs)
  unfolding first_exact
  first_says [] r h = h
  first_says (x ∷ xs) r h = h

  last_at : (x : A) (xs : List A) (r : Bool) → MatchOption (slice_get (x ∷ xs) (length xs)) (IsTrue r) (λ y. r ≡ eqb (f y).delta 0)
      → r ≡ last_exact (map f (x ∷ xs))
  unfolding last_exact
  last_at x [] r h = h
  last_at x (y ∷ ys) r h = last_at y ys r h

  pub last_says : (xs : List A) (r : Bool) → LastSays f xs r → r ≡ last_exact (map f xs)
  unfolding last_exact
  last_says [] r h = h
  last_says (x ∷ xs) r h =
      let q : suc (length xs) - 1 ≡ length xs = omega arith in
      last_at x xs r (rw q at h)

-- the rules that the pass still has to see, where low is the value before es and sum the g before es
abbrev pub rest : ℕ → ℕ → ℕ → ℕ → List Entry → Bool
rest p n low sum es = rising low (values es) && (each_within p es && eqb (sum + sum_g es) n)

module _ (p n : ℕ) where
  pub ends_wrong : (es : List Entry) → false ≡ (first_exact es && last_exact es) → false ≡ sound_entries p n es
  unfolding sound_entries
  ends_wrong es h = simp (sym h, and-false)

  pub begin : (es : List Entry) → true ≡ (first_exact es && last_exact es) → sound_entries p n es ≡ rest p n 0 0 es
  unfolding sound_entries
  begin es h = simp (sym h, and-true, zero-add)

  -- before a place: the rules not seen yet say what all of them say
  module _ {A : Type 0} (f : A → Entry) (xs : List A) (i low sum : ℕ) (h : sound_entries p n (map f xs) ≡ rest p n low sum (map f (drop i xs))) where
    -- at the place: a rule is broken, or the pass goes on
    module _ (x : A) (e : Entry) (b : i < length xs) (at : x ≡ get_or xs i x) (is : e ≡ f x) where
      turn : sound_entries p n (map f xs) ≡ rest p n low sum (e ∷ map f (drop (i + 1) xs))
      turn =
          h
          ∙ at_drop_more (λ l. rest p n low sum (map f l)) xs i x b
          ∙ ap (λ (z : Entry). rest p n low sum (z ∷ map f (drop (i + 1) xs))) (sym (is ∙ ap f at))

      pub falls : e.v < low → false ≡ sound_entries p n (map f xs)
      falls a = sym (turn ∙ rw (lt-leb low e.v a))

      pub thin : e.g < 1 → false ≡ sound_entries p n (map f xs)
      unfolding each_within
      thin a = sym (turn ∙ rw (lt-leb 1 e.g a, and-false))

      pub large : p + 1 < e.g + e.delta → false ≡ sound_entries p n (map f xs)
      unfolding each_within
      large a = sym (turn ∙ rw (lt-leb (e.g + e.delta) (p + 1) a) (simp (and-false)))

      pub go : low ≤ e.v → 1 ≤ e.g → e.g + e.delta ≤ p + 1
          → sound_entries p n (map f xs) ≡ rest p n e.v (sum + e.g) (map f (drop (i + 1) xs))
      unfolding each_within
      go a k c =
          turn
          ∙ rw (le-leb low e.v a, le-leb 1 e.g k, le-leb (e.g + e.delta) (p + 1) c, add_assoc sum e.g (sum_g (map f (drop (i + 1) xs))))

    -- no place is left
    pub finish : length xs ≤ i → eqb sum n ≡ sound_entries p n (map f xs)
    unfolding each_within
    finish b = sym (h ∙ at_drop_all (λ l. rest p n low sum (map f l)) xs i b ∙ rw (add-zero sum))
