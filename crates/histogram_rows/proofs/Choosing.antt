-- Over bounds that never fall, the bins that a total asks for are a part of the counts: those up to a bound stand in front, those above it behind.
-- Assumes nothing.
use mathlib.Core.Path.{◌≡◌, refl, sym, ap, ◌∙◌}
use Prim.Native.Nat.{ℕ, suc, ◌+◌, ◌-◌, ◌≤◌}
use mathlib.Core.Bool.{Bool, true, false, not, cond, ◌&&◌}
use mathlib.Core.List.{List, [], ◌∷◌}
use native.Mathlib.Omega.{arith}
use borrow.Author.Tests.{le-leb, leb-true, leb-false}
use lib.ListN.{length, take, drop, length-take, length-drop}
use Rattle.entries.specs.Ranks.{Rising, upto}
use Rattle.entries.proofs.Sorting.{none_upto}
use Rattle.histogram_rows.specs.declared.Bound.{Bound}
use Rattle.histogram_rows.specs.declared.Bound.TheVariants.{Finite, PosInf}
use Rattle.histogram_rows.specs.Bounds.{at_most, ending}
use Rattle.histogram_rows.specs.Bins.{chosen, bins_between, Binned}

-- how many bins have a bound that is at most u
pub ending_finite : (bs : List ℕ) (x : ℕ) → ending bs (Finite x) ≡ upto bs x
ending_finite [] x = refl
ending_finite (b ∷ bs) x = omega (arith, ending_finite bs x)

pub ending_inf : (bs : List ℕ) → ending bs PosInf ≡ suc (length bs)
ending_inf [] = refl
ending_inf (b ∷ bs) = omega (arith, ending_inf bs)

one_or_none : (t : Bool) → cond t 1 0 ≤ 1
one_or_none true = omega arith
one_or_none false = omega arith

pub ending_le : (bs : List ℕ) (u : Bound) → ending bs u ≤ suc (length bs)
ending_le [] u = one_or_none (at_most PosInf u)
ending_le (b ∷ bs) u = omega (arith, one_or_none (at_most (Finite b) u), ending_le bs u)

-- nothing behind a bound that is above u is at most u
none_ending : (low : ℕ) (bs : List ℕ) (u : Bound) → Rising low bs → at_most (Finite low) u ≡ false → ending bs u ≡ 0
none_ending low bs (Finite x) r e = ending_finite bs x ∙ none_upto low bs x r (leb-false low x e)
none_ending low bs PosInf r e = absurd (cc)

-- what is at most l is at most u, where u is above l
passes_on : (b : ℕ) (l u : Bound) → at_most u l ≡ false → at_most (Finite b) l ≡ true → at_most (Finite b) u ≡ true
passes_on b (Finite l) (Finite u) g e = le-leb b u (omega (arith, leb-false u l g, leb-true b l e))
passes_on b (Finite l) PosInf g e = refl
passes_on b PosInf (Finite u) g e = absurd (cc)
passes_on b PosInf PosInf g e = absurd (cc)

module _ (u : Bound) where
  pub chosen_below : (low : ℕ) (bs cs : List ℕ) → Rising low bs → length cs ≡ suc (length bs)
      → chosen (λ b. at_most b u) bs cs ≡ take (ending bs u) cs
  chosen_below low bs [] r e = absurd (omega arith)
  chosen_below low [] (c ∷ []) r e = go (at_most PosInf u)
    where
      go : (t : Bool) → cond t (c ∷ []) [] ≡ take (cond t 1 0) (c ∷ [])
      go true = refl
      go false = refl
  chosen_below low [] (c ∷ (d ∷ cs)) r e = absurd (omega arith)
  chosen_below low (b ∷ bs) (c ∷ cs) r e = go (at_most (Finite b) u) refl (chosen_below b bs cs r.1 (omega arith))
    where
      rest : List ℕ
      rest = chosen (λ b. at_most b u) bs cs

      go : (t : Bool) → at_most (Finite b) u ≡ t → rest ≡ take (ending bs u) cs → cond t (c ∷ rest) rest ≡ take (cond t 1 0 + ending bs u) (c ∷ cs)
      go true q h = let o : 1 + ending bs u ≡ suc (ending bs u) = omega arith in rw o (ap (λ (l : List ℕ). c ∷ l) h)
      go false q h = let z : ending bs u ≡ 0 = none_ending b bs u r.1 q in rw (z) (rw z at h)

  pub chosen_above : (low : ℕ) (bs cs : List ℕ) → Rising low bs → length cs ≡ suc (length bs)
      → chosen (λ b. not (at_most b u)) bs cs ≡ drop (ending bs u) cs
  chosen_above low bs [] r e = absurd (omega arith)
  chosen_above low [] (c ∷ []) r e = go (at_most PosInf u)
    where
      go : (t : Bool) → cond (not t) (c ∷ []) [] ≡ drop (cond t 1 0) (c ∷ [])
      go true = refl
      go false = refl
  chosen_above low [] (c ∷ (d ∷ cs)) r e = absurd (omega arith)
  chosen_above low (b ∷ bs) (c ∷ cs) r e = go (at_most (Finite b) u) refl (chosen_above b bs cs r.1 (omega arith))
    where
      rest : List ℕ
      rest = chosen (λ b. not (at_most b u)) bs cs

      go : (t : Bool) → at_most (Finite b) u ≡ t → rest ≡ drop (ending bs u) cs
          → cond (not t) (c ∷ rest) rest ≡ drop (cond t 1 0 + ending bs u) (c ∷ cs)
      go true q h = let o : 1 + ending bs u ≡ suc (ending bs u) = omega arith in rw o h
      go false q h =
          let z : ending bs u ≡ 0 = none_ending b bs u r.1 q in rw z (ap (λ (l : List ℕ). c ∷ l) (rw z at h))

-- between two bounds: behind those up to l, and within those up to u
module _ (l u : Bound) (g : at_most u l ≡ false) where
  chosen-between : (low : ℕ) (bs cs : List ℕ) → Rising low bs → length cs ≡ suc (length bs)
      → chosen (λ b. not (at_most b l) && at_most b u) bs cs ≡ take (ending bs u - ending bs l) (drop (ending bs l) cs)
  chosen-between low bs [] r e = absurd (omega arith)
  chosen-between low [] (c ∷ []) r e = go (at_most PosInf l) (at_most PosInf u)
    where
      go : (s t : Bool) → cond (not s && t) (c ∷ []) [] ≡ take (cond t 1 0 - cond s 1 0) (drop (cond s 1 0) (c ∷ []))
      go true true = refl
      go true false = refl
      go false true = refl
      go false false = refl
  chosen-between low [] (c ∷ (d ∷ cs)) r e = absurd (omega arith)
  chosen-between low (b ∷ bs) (c ∷ cs) r e =
      go (at_most (Finite b) l) (at_most (Finite b) u) refl refl (chosen-between b bs cs r.1 (omega arith))
    where
      rest : List ℕ
      rest = chosen (λ b. not (at_most b l) && at_most b u) bs cs

      from : ℕ
      from = ending bs l

      to : ℕ
      to = ending bs u

      go : (s t : Bool) → at_most (Finite b) l ≡ s → at_most (Finite b) u ≡ t → rest ≡ take (to - from) (drop from cs)
          → cond (not s && t) (c ∷ rest) rest ≡ take (cond t 1 0 + to - (cond s 1 0 + from)) (drop (cond s 1 0 + from) (c ∷ cs))
      go true true p q h =
          let o : 1 + to - (1 + from) ≡ to - from = omega arith in
          let f : 1 + from ≡ suc from = omega arith in
          rw (o, f) h
      go true false p q h = absurd (cc (passes_on b l u g p))
      go false true p q h =
          let z : ending bs l ≡ 0 = none_ending b bs l r.1 p in
          let o : 1 + to - 0 ≡ suc to = omega arith in
          let f : to - 0 ≡ to = omega arith in
          rw (z, o) (ap (λ (k : List ℕ). c ∷ k) (rw (z, f) at h))
      go false false p q h =
          let z : ending bs l ≡ 0 = none_ending b bs l r.1 p in
          let y : ending bs u ≡ 0 = none_ending b bs u r.1 q in
          rw (z, y) (rw (z, y) at h)

-- a bound that is at most another has no more bins up to it
steps : (s t : Bool) → (s ≡ true → t ≡ true) → cond s 1 0 ≤ cond t 1 0
steps true true f = omega arith
steps true false f = absurd (cc (f refl))
steps false t f = omega arith

pub passes_up : (b u l : Bound) → at_most u l ≡ true → at_most b u ≡ true → at_most b l ≡ true
passes_up (Finite b) (Finite u) (Finite l) g e = le-leb b l (omega (arith, leb-true u l g, leb-true b u e))
passes_up (Finite b) PosInf (Finite l) g e = absurd (cc)
passes_up PosInf (Finite u) (Finite l) g e = absurd (cc)
passes_up PosInf PosInf (Finite l) g e = g
passes_up (Finite b) u PosInf g e = refl
passes_up PosInf u PosInf g e = refl

ending_mono : (bs : List ℕ) (u l : Bound) → at_most u l ≡ true → ending bs u ≤ ending bs l
ending_mono [] u l g = steps (at_most PosInf u) (at_most PosInf l) (passes_up PosInf u l g)
ending_mono (b ∷ bs) u l g =
    omega (arith, steps (at_most (Finite b) u) (at_most (Finite b) l) (passes_up (Finite b) u l g), ending_mono bs u l g)

-- the bins between two bounds, whichever is the greater
pub between_part : (bs cs : List ℕ) (l u : Bound) → Rising 0 bs → length cs ≡ suc (length bs)
    → bins_between bs cs l u ≡ take (ending bs u - ending bs l) (drop (ending bs l) cs)
between_part bs cs l u r e = go (at_most u l) refl
  where
    go : (t : Bool) → at_most u l ≡ t
        → cond t [] (chosen (λ b. not (at_most b l) && at_most b u) bs cs) ≡ take (ending bs u - ending bs l) (drop (ending bs l) cs)
    go true q = let z : ending bs u - ending bs l ≡ 0 = omega (arith, ending_mono bs u l q) in rw z
    go false q = chosen-between l u q 0 bs cs r e

-- as the code hands them back, from one place up to another
module _ {bs cs : List ℕ} (l u : Bound) (b : Binned bs cs) where
  pub between_handed : (start end : ℕ) → start ≡ ending bs l → end ≡ ending bs u → take (end - start) (drop start cs) ≡ bins_between bs cs l u
  between_handed start end p q = rw (p, q) (sym (between_part bs cs l u b.never_fall b.long))

  -- they are few enough to add up
  pub between_few : {part : List ℕ} → part ≡ bins_between bs cs l u → length part ≤ 65536
  between_few e =
      omega (
        arith,
        b.few,
        ap length (e ∙ between_part bs cs l u b.never_fall b.long),
        length-take (ending bs u - ending bs l) (drop (ending bs l) cs),
        length-drop (ending bs l) cs,
      )
