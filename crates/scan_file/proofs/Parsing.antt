-- What the tests of the layout say, as facts; and where the parts of a scan stand in its words. Assumes nothing.
use mathlib.Core.Path.{◌≡◌, refl, sym, ap, ◌∙◌}
use mathlib.Core.Bool.{Bool, true, false, cond, ◌&&◌, and-eq-true_iff}
use Rattle.std.proofs.Common.{Option, Some, None, Ok, Err}
use mathlib.Core.List.{List, [], ◌∷◌, ◌++◌}
use Prim.Native.Nat.{ℕ, zero, suc, ◌+◌, ◌*◌, ◌/◌, ◌%◌, ◌≤◌, ◌<◌}
use native.Mathlib.Omega.{arith}
use lib.Dec.{leb, eqb}
use lib.ListN.{length, get_or}
use borrow.Author.Tests.{leb-true, eqb-true, le-leb, eq-eqb}
use Rattle.fraction.specs.declared.Fraction.{Fraction}
use Rattle.refusal.specs.declared.Refusal.{Refusal}
use Rattle.refusal.specs.declared.Refusal.TheVariants.{File}
use Rattle.scan_file.specs.declared.Layout.{Layout}
use Rattle.scan_file.specs.Answers.{answer}
use Rattle.scan_file.specs.Layout.{Scan, flat, well_formed, scan_of, parsed, fraction_count, observation_count, fraction_words, observations, fraction_at, observation_at, fractions_at, observations_at}
use Rattle.scan_file.specs.Words.{word_at, each}
use Rattle.scan_file.proofs.Wording.{each_add, length_each}

pub record Facts (bytes : List ℕ) : Type 0 where
  pub epsilon : word_at bytes 0 ≡ 2
  pub few : fraction_count bytes ≤ 128
  pub even : fraction_count bytes % 2 ≡ 0
  pub small : observation_count bytes ≤ 8192
  pub long : length bytes ≡ 4 * (5 + fraction_count bytes + observation_count bytes)

module _ (bytes : List ℕ) where
  pub well_facts : well_formed bytes ≡ true → Facts bytes
  unfolding well_formed
  well_facts h =
      let f = fraction_count bytes in
      let o = observation_count bytes in
      let last = eqb (length bytes) (4 * (5 + f + o)) in
      let a = (and-eq-true_iff (eqb (word_at bytes 0) 2) (leb f fraction_words && (eqb (f % 2) 0 && (leb o observations && last)))).0 h in
      let b = (and-eq-true_iff (leb f fraction_words) (eqb (f % 2) 0 && (leb o observations && last))).0 a.1 in
      let c = (and-eq-true_iff (eqb (f % 2) 0) (leb o observations && last)).0 b.1 in
      let d = (and-eq-true_iff (leb o observations) last).0 c.1 in
      record {
        epsilon = eqb-true (word_at bytes 0) 2 a.0;
        few = leb-true f 128 b.0;
        even = eqb-true (f % 2) 0 c.0;
        small = leb-true o 8192 d.0;
        long = eqb-true (length bytes) (4 * (5 + f + o)) d.1;
      }

  pub facts_well : Facts bytes → well_formed bytes ≡ true
  unfolding well_formed
  facts_well f =
      simp (
        eq-eqb (word_at bytes 0) 2 f.epsilon,
        le-leb (fraction_count bytes) 128 f.few,
        eq-eqb (fraction_count bytes % 2) 0 f.even,
        le-leb (observation_count bytes) 8192 f.small,
        eq-eqb (length bytes) (4 * (5 + fraction_count bytes + observation_count bytes)) f.long,
      )

  -- bytes that are taken are well formed, and mean what stands in them
  pub taken_facts : (s : Scan) → parsed bytes ≡ Some s → Facts bytes × (s ≡ scan_of bytes)
  unfolding parsed
  taken_facts s h = go (well_formed bytes) refl h
    where
      go : (t : Bool) → well_formed bytes ≡ t → cond t (Some (scan_of bytes)) None ≡ Some s → Facts bytes × (s ≡ scan_of bytes)
      go true e h = (well_facts e, cc)
      go false e h = absurd cc

  pub facts_taken : Facts bytes → parsed bytes ≡ Some (scan_of bytes)
  unfolding parsed
  facts_taken f = rw (facts_well f)

  -- bytes that break a rule are refused
  pub breaks : (Facts bytes → ⊥) → Err File ≡ answer (parsed bytes)
  unfolding parsed
  breaks wrong = go (well_formed bytes) refl
    where
      go : (t : Bool) → well_formed bytes ≡ t → Err File ≡ answer (cond t (Some (scan_of bytes)) None)
      go true e = absurd (wrong (well_facts e))
      go false e = refl

  -- the counts and ε as they were read
  module _ (w o : ℕ) (few : w ≡ word_at bytes 3) (many : o ≡ word_at bytes (4 + w)) where
    pub count_read : o ≡ observation_count bytes
    count_read = many ∙ ap (λ (n : ℕ). word_at bytes (4 + n)) few

    pub keeps : (num den : ℕ) → Facts bytes → num ≡ word_at bytes 1 → den ≡ word_at bytes 2
        → Ok (record { epsilon = record { num = num; den = den }; fractions = w / 2; observations = o }) ≡ answer (parsed bytes)
    keeps num den f a b =
        let p : w / 2 ≡ length (scan_of bytes).fractions = ap (λ (n : ℕ). n / 2) few ∙ sym (length_each (fraction_at bytes) 0 (fraction_count bytes / 2)) in
        let from = observation_at bytes (fraction_count bytes / 2) in
        let q : o ≡ length (scan_of bytes).observations = count_read ∙ sym (length_each from 0 (observation_count bytes)) in
        (λ i. Ok (record { epsilon = record { num = a i; den = b i }; fractions = p i; observations = q i })) ∙ sym (ap answer (facts_taken f))

-- the scan that a layout says
abbrev pub scan_at : List ℕ → Layout → Scan
scan_at bytes l = record {
  epsilon = l.epsilon;
  fractions = fractions_at bytes l.fractions;
  observations = observations_at bytes l.fractions l.observations;
}

module _ (bytes : List ℕ) where
  -- the scan of the layout that `parse` gives, and the most fractions
  pub layout_taken : (l : Layout) → Ok l ≡ answer (parsed bytes) → (parsed bytes ≡ Some (scan_at bytes l)) × (l.fractions ≤ 64)
  layout_taken l h = go (parsed bytes) refl h
    where
      go : (o : Option Scan) → parsed bytes ≡ o → Ok l ≡ answer o → (parsed bytes ≡ Some (scan_at bytes l)) × (l.fractions ≤ 64)
      go None e h = absurd cc
      go (Some s) e h =
          let t = taken_facts bytes s e in
          let f = t.0 in
          let k = fraction_count bytes / 2 in
          let same : l ≡ record { epsilon = s.epsilon; fractions = length s.fractions; observations = length s.observations } = cc in
          let p : (scan_of bytes).epsilon ≡ l.epsilon = sym (ap (λ (x : Layout). x.epsilon) same ∙ ap (λ (x : Scan). x.epsilon) t.1) in
          let q : k ≡ l.fractions =
          sym (ap (λ (x : Layout). x.fractions) same ∙ ap (λ (x : Scan). length x.fractions) t.1 ∙ length_each (fraction_at bytes) 0 k)
          in
          let r : observation_count bytes ≡ l.observations =
          sym (
          ap (λ (x : Layout). x.observations) same
          ∙ ap (λ (x : Scan). length x.observations) t.1
          ∙ length_each (observation_at bytes k) 0 (observation_count bytes)
          )
          in
          let whole : scan_of bytes ≡ scan_at bytes l =
          λ i. record {
            epsilon = p i;
            fractions = fractions_at bytes (q i);
            observations = observations_at bytes (q i) (r i);
          }
          in
          (e ∙ ap Some (t.1 ∙ whole), omega arith)

  pub layout_refused : (why : Refusal) → Err why ≡ answer (parsed bytes) → parsed bytes ≡ None
  layout_refused why h = go (parsed bytes) refl h
    where
      go : (o : Option Scan) → parsed bytes ≡ o → Err why ≡ answer o → parsed bytes ≡ None
      go None e h = e
      go (Some s) e h = absurd cc

-- the words of fractions
pub length_flat : (fs : List Fraction) → length (flat fs) ≡ 2 * length fs
unfolding flat
length_flat [] = refl
length_flat (f ∷ fs) = omega (arith, length_flat fs)

module _ (d : Fraction) where
  pub flat_num : (fs : List Fraction) (k : ℕ) → k < length fs → get_or (flat fs) (2 * k) 0 ≡ (get_or fs k d).num
  unfolding flat
  flat_num [] k h = absurd (omega arith)
  flat_num (f ∷ fs) zero h = refl
  flat_num (f ∷ fs) (suc k) h =
      let e : 2 * suc k ≡ suc (suc (2 * k)) = omega arith in
      ap (λ (n : ℕ). get_or (f.num ∷ f.den ∷ flat fs) n 0) e ∙ flat_num fs k (omega arith)

  pub flat_den : (fs : List Fraction) (k : ℕ) → k < length fs → get_or (flat fs) (suc (2 * k)) 0 ≡ (get_or fs k d).den
  unfolding flat
  flat_den [] k h = absurd (omega arith)
  flat_den (f ∷ fs) zero h = refl
  flat_den (f ∷ fs) (suc k) h =
      let e : suc (2 * suc k) ≡ suc (suc (suc (2 * k))) = omega arith in
      ap (λ (n : ℕ). get_or (f.num ∷ f.den ∷ flat fs) n 0) e ∙ flat_den fs k (omega arith)

pub flat_each : (bytes : List ℕ) (i k : ℕ) → flat (each (fraction_at bytes) i k) ≡ each (word_at bytes) (4 + 2 * i) (2 * k)
unfolding each flat
flat_each bytes i zero = refl
flat_each bytes i (suc k) =
    let e : suc (suc (2 * k)) ≡ 2 * suc k = omega arith in
    let a : 5 + 2 * i ≡ suc (4 + 2 * i) = omega arith in
    let b : 4 + 2 * suc i ≡ suc (suc (4 + 2 * i)) = omega arith in
    ap (λ (l : List ℕ). word_at bytes (4 + 2 * i) ∷ word_at bytes (5 + 2 * i) ∷ l) (flat_each bytes (suc i) k)
    ∙ ap (λ (n : ℕ). word_at bytes (4 + 2 * i) ∷ word_at bytes n ∷ each (word_at bytes) (4 + 2 * suc i) (2 * k)) a
    ∙ ap (λ (n : ℕ). word_at bytes (4 + 2 * i) ∷ word_at bytes (suc (4 + 2 * i)) ∷ each (word_at bytes) n (2 * k)) b
    ∙ ap (each (word_at bytes) (4 + 2 * i)) e

-- the words of a file, part by part
pub parts : (w : ℕ → ℕ) (f o : ℕ)
    → each w 0 (5 + f + o) ≡ w 0 ∷ w 1 ∷ w 2 ∷ w 3 ∷ (each w 4 f ++ (w (4 + f) ∷ each w (5 + f) o))
unfolding each
parts w f o =
    let e : 5 + f + o ≡ suc (suc (suc (suc (f + suc o)))) = omega arith in
    let a : suc (4 + f) ≡ 5 + f = omega arith in
    ap (each w 0) e
    ∙ ap (λ (l : List ℕ). w 0 ∷ w 1 ∷ w 2 ∷ w 3 ∷ l)
    (each_add w 4 f (suc o) ∙ ap (λ (n : ℕ). each w 4 f ++ (w (4 + f) ∷ each w n o)) a)
