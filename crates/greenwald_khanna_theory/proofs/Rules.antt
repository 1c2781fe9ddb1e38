-- The rules of sound entries as facts, and that the test says exactly these facts.
-- Assumes nothing.
use mathlib.Core.Path.{◌≡◌, refl}
use Prim.Native.Nat.{ℕ, ◌+◌, ◌≤◌}
use mathlib.Core.Bool.{Bool, true, ◌&&◌, and-eq-true_iff}
use mathlib.Core.List.{List, [], ◌∷◌}
use lib.Dec.{leb, eqb}
use borrow.Author.Tests.{leb-true, eqb-true, le-leb, eq-eqb}
use Rattle.entries.specs.declared.Entry.{Entry}
use Rattle.entries.specs.Entry.{values, sum_g}
use Rattle.entries.specs.Order.{rising}
use Rattle.entries.specs.Ranks.{Rising}
use Rattle.entries.proofs.Guards.{both}
use Rattle.entries.proofs.Order.{rising_means, rising_holds}
use Rattle.greenwald_khanna_theory.specs.Sound.{each_within, first_exact, last_exact, sound_entries}

-- each entry has g at least 1, and g + delta at most p + 1
abbrev pub Each : ℕ → List Entry → Type 0
Each p [] = Unit {0}
Each p (e ∷ es) = (1 ≤ e.g) × (e.g + e.delta ≤ p + 1) × Each p es

-- the first entry has g = 1 and delta = 0
abbrev pub FirstExact : List Entry → Type 0
FirstExact [] = Unit {0}
FirstExact (e ∷ es) = (e.g ≡ 1) × (e.delta ≡ 0)

-- the last entry has delta = 0
abbrev pub LastExact : List Entry → Type 0
LastExact [] = Unit {0}
LastExact (e ∷ []) = e.delta ≡ 0
LastExact (e ∷ f ∷ es) = LastExact (f ∷ es)

-- the facts of sound entries of n observations with p = ⌊2εn⌋
pub record Entries (p n : ℕ) (es : List Entry) : Type 0 where
  pub sorted : Rising 0 (values es)
  pub each : Each p es
  pub total : sum_g es ≡ n
  pub first : FirstExact es
  pub last : LastExact es

-- a conjunction of two that hold
pair : (a b : Bool) → a ≡ true → b ≡ true → a && b ≡ true
pair a b h k = (and-eq-true_iff a b).1 (h, k)

-- each entry within its bounds
each_fact : (p : ℕ) (es : List Entry) → each_within p es ≡ true → Each p es
unfolding each_within
each_fact p [] h = tt
each_fact p (e ∷ es) h =
    let a = both (leb 1 e.g) (leb (e.g + e.delta) (p + 1) && each_within p es) h in
    let b = both (leb (e.g + e.delta) (p + 1)) (each_within p es) a.1 in
    (leb-true 1 e.g a.0, leb-true (e.g + e.delta) (p + 1) b.0, each_fact p es b.1)

fact_each : (p : ℕ) (es : List Entry) → Each p es → each_within p es ≡ true
unfolding each_within
fact_each p [] h = refl
fact_each p (e ∷ es) h =
    pair (leb 1 e.g) (leb (e.g + e.delta) (p + 1) && each_within p es) (le-leb 1 e.g h.0)
    (pair (leb (e.g + e.delta) (p + 1)) (each_within p es) (le-leb (e.g + e.delta) (p + 1) h.1) (fact_each p es h.2))

-- the first entry
first_fact : (es : List Entry) → first_exact es ≡ true → FirstExact es
unfolding first_exact
first_fact [] h = tt
first_fact (e ∷ es) h =
    let a = both (eqb e.g 1) (eqb e.delta 0) h in
    (eqb-true e.g 1 a.0, eqb-true e.delta 0 a.1)

fact_first : (es : List Entry) → FirstExact es → first_exact es ≡ true
unfolding first_exact
fact_first [] h = refl
fact_first (e ∷ es) h = pair (eqb e.g 1) (eqb e.delta 0) (eq-eqb e.g 1 h.0) (eq-eqb e.delta 0 h.1)

-- the last entry
last_fact : (es : List Entry) → last_exact es ≡ true → LastExact es
unfolding last_exact
last_fact [] h = tt
last_fact (e ∷ []) h = eqb-true e.delta 0 h
last_fact (e ∷ f ∷ es) h = last_fact (f ∷ es) h

fact_last : (es : List Entry) → LastExact es → last_exact es ≡ true
unfolding last_exact
fact_last [] h = refl
fact_last (e ∷ []) h = eq-eqb e.delta 0 h
fact_last (e ∷ f ∷ es) h = fact_last (f ∷ es) h

-- what the test says, as facts
pub entries_true : (p n : ℕ) (es : List Entry) → sound_entries p n es ≡ true → Entries p n es
unfolding sound_entries
entries_true p n es h =
    let a = both (rising 0 (values es)) (each_within p es && (eqb (sum_g es) n && (first_exact es && last_exact es))) h in
    let b = both (each_within p es) (eqb (sum_g es) n && (first_exact es && last_exact es)) a.1 in
    let c = both (eqb (sum_g es) n) (first_exact es && last_exact es) b.1 in
    let d = both (first_exact es) (last_exact es) c.1 in
    record {
      sorted = rising_means 0 (values es) a.0;
      each = each_fact p es b.0;
      total = eqb-true (sum_g es) n c.0;
      first = first_fact es d.0;
      last = last_fact es d.1;
    }

-- and the facts make the test true
pub true_entries : (p n : ℕ) (es : List Entry) → Entries p n es → sound_entries p n es ≡ true
unfolding sound_entries
true_entries p n es h =
    pair (rising 0 (values es)) (each_within p es && (eqb (sum_g es) n && (first_exact es && last_exact es))) (rising_holds 0 (values es) h.sorted)
    (pair (each_within p es) (eqb (sum_g es) n && (first_exact es && last_exact es)) (fact_each p es h.each)
    (pair (eqb (sum_g es) n) (first_exact es && last_exact es) (eq-eqb (sum_g es) n h.total)
    (pair (first_exact es) (last_exact es) (fact_first es h.first) (fact_last es h.last))))
