-- One turn of the backward pass keeps what `MergedFrom` says.
-- Assumes nothing.
use mathlib.Core.Path.{◌≡◌, refl, sym, ap, ◌∙◌}
use Prim.Native.Nat.{ℕ, zero, suc, ◌-◌, ◌<◌}
use mathlib.Core.Bool.{Bool, true, false, cond}
use mathlib.Core.List.{List, [], ◌∷◌}
use native.Mathlib.Numerals.{add-one}
use native.Mathlib.Omega.{arith}
use lib.ListN.{length, set, take, drop, length-set}
use lib.Seq.{take-take, get_or-take, take-set-le, drop-cons, drop-length}
use Rattle.std.proofs.lemmas.List.{drop-set}
use Rattle.entries.specs.declared.Entry.{Entry}
use Rattle.entries.specs.Entry.{zero_entry}
use Rattle.greenwald_khanna_theory.specs.Summary.{mergeable, step, merged}
use Rattle.greenwald_khanna_rows.specs.Compress.{at, joined, TurnPost, MergedFrom}

-- a store at the head of a part that runs to the end
drop_stored : {A : Type 0} (xs : List A) (k : ℕ) (x : A) → k < length xs → drop k (set xs k x) ≡ x ∷ drop (suc k) xs
drop_stored xs k x h = drop-set xs k x h ∙ ap (λ (n : ℕ). x ∷ drop n xs) (add-one k)

-- the pass starts at the last entry
pub start : (p : ℕ) (es : List Entry) → 1 < length es → MergedFrom p es (length es - 1) (length es - 1) es
unfolding merged step
start p es h =
    let q : suc (length es - 1) ≡ length es = omega arith in
    let last : drop (length es - 1) es ≡ at es (length es - 1) ∷ [] =
    drop-cons es (length es - 1) zero_entry (omega arith) ∙ rw (q, drop-length es) in
    record {
      low = omega arith;
      order = omega arith;
      high = omega arith;
      same_length = refl;
      front = refl;
      done = rw last;
    }

module _ (p : ℕ) (es fs : List Entry) (i w : ℕ) (l : 0 < i) (z : MergedFrom p es (suc i) w fs) where
  same-entry : at fs i ≡ at es i
  same-entry =
      sym (get_or-take (suc i) fs i zero_entry (omega arith)) ∙ ap (λ (t : List Entry). at t i) z.front ∙ get_or-take (suc i) es i zero_entry (omega arith)

  front_less : take i fs ≡ take i es
  front_less = sym (take-take i (suc i) fs (omega arith)) ∙ ap (take i) z.front ∙ take-take i (suc i) es (omega arith)

  -- what is to stand from i on
  next : merged p (drop i es) ≡ cond (mergeable p (at fs i) (at fs w)) (joined (at fs i) (at fs w) ∷ drop (suc w) fs) (at fs i ∷ drop w fs)
  unfolding merged step
  next =
      rw (drop-cons es i zero_entry (omega (arith, z.order, z.high)), ← z.done, ← same-entry, drop-cons fs w zero_entry (omega (arith, z.high, z.same_length)))

  goes : mergeable p (at fs i) (at fs w) ≡ true → MergedFrom p es i w (set fs w (joined (at fs i) (at fs w)))
  goes t =
      record {
        low = l;
        order = omega (arith, z.order);
        high = z.high;
        same_length = length-set fs w (joined (at fs i) (at fs w)) ∙ z.same_length;
        front = take-set-le i fs w (joined (at fs i) (at fs w)) (omega (arith, z.order)) ∙ front_less;
        done = drop_stored fs w (joined (at fs i) (at fs w)) (omega (arith, z.high, z.same_length)) ∙ sym (rw t at next);
      }

  stays : (k : ℕ) → suc k ≡ w → mergeable p (at fs i) (at fs w) ≡ false → MergedFrom p es i k (set fs k (at fs i))
  stays k s t =
      record {
        low = l;
        order = omega (arith, z.order);
        high = omega (arith, z.high);
        same_length = length-set fs k (at fs i) ∙ z.same_length;
        front = take-set-le i fs k (at fs i) (omega (arith, z.order)) ∙ front_less;
        done =
            drop_stored fs k (at fs i) (omega (arith, z.high, z.same_length))
            ∙ ap (λ (n : ℕ). at fs i ∷ drop n fs) s
            ∙ sym (rw t at next);
      }

  either : (t : Bool) → mergeable p (at fs i) (at fs w) ≡ t
      → MergedFrom p es i (cond t w (w - 1)) (cond t (set fs w (joined (at fs i) (at fs w))) (set fs (w - 1) (at fs i)))
  either true e = goes e
  either false e = stays (w - 1) (omega (arith, z.order)) e

-- a turn of the loop at i
pub turned : (p : ℕ) (es fs : List Entry) (i w r : ℕ) (gs : List Entry) → 1 < i → MergedFrom p es i w fs
    → TurnPost p (i - 1) w fs r gs → MergedFrom p es (i - 1) r gs
turned p es fs zero w r gs l z t = absurd (omega arith)
turned p es fs (suc i) w r gs l z t =
    let q : suc i - 1 ≡ i = omega arith in
    let u : TurnPost p i w fs r gs = rw q at t in
    rw (q, u.place, u.list) (either p es fs i w (omega arith) z (mergeable p (at fs i) (at fs w)) refl)
