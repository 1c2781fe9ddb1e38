-- Compressing keeps a summary sound and explained, and leaves the first entry as it is.
-- Assumes nothing.
use mathlib.Core.Path.{◌≡◌, refl}
use Prim.Native.Nat.{ℕ, ◌+◌, ◌<◌}
use native.Mathlib.Nat.{add_assoc}
use mathlib.Core.List.{List, [], ◌∷◌}
use native.Mathlib.Omega.{arith}
use lib.Dec.{leb}
use Rattle.entries.proofs.Choose.{both-cases}
use Rattle.fraction.specs.Band.{band}
use Rattle.entries.specs.Ranks.{Rising}
use Rattle.entries.specs.declared.Entry.{Entry}
use Rattle.entries.specs.Entry.{entry, values, sum_g}
use Rattle.greenwald_khanna_theory.specs.Summary.{mergeable, step, merged, compress}
use Rattle.greenwald_khanna_theory.proofs.Rules.{Each, LastExact, Entries}
use Rattle.greenwald_khanna_theory.proofs.Counts.{ExplainedFrom}

-- To show something of `step p e (nx ∷ ns)`: show it of the merged entry, where g + g' + delta' < p, and of the two as they stand.
pub step_cases : (P : List Entry → Type 0) (p : ℕ) (e nx : Entry) (ns : List Entry)
    → (e.g + nx.g + nx.delta < p → P (entry nx.v (e.g + nx.g) nx.delta ∷ ns)) → P (e ∷ nx ∷ ns) → P (step p e (nx ∷ ns))
unfolding step mergeable
step_cases P p e nx ns f k =
    both-cases P (e.g + nx.g + nx.delta) p (leb (band p e.delta) (band p nx.delta)) f k

-- each fact, for one step and for all

sum_step : (p : ℕ) (e : Entry) (ns : List Entry) → sum_g (step p e ns) ≡ e.g + sum_g ns
unfolding step
sum_step p e [] = refl
sum_step p e (nx ∷ ns) =
    step_cases (λ (l : List Entry). sum_g l ≡ e.g + sum_g (nx ∷ ns)) p e nx ns (λ h. omega arith) refl

pub sum_merged : (p : ℕ) (es : List Entry) → sum_g (merged p es) ≡ sum_g es
unfolding merged
sum_merged p [] = refl
sum_merged p (e ∷ es) = omega (arith, sum_step p e (merged p es), sum_merged p es)

rising_step : (low p : ℕ) (e : Entry) (ns : List Entry) → Rising low (values (e ∷ ns)) → Rising low (values (step p e ns))
unfolding step
rising_step low p e [] r = r
rising_step low p e (nx ∷ ns) r =
    step_cases (λ (l : List Entry). Rising low (values l)) p e nx ns (λ h. (omega arith, r.1.1)) r

pub rising_merged : (low p : ℕ) (es : List Entry) → Rising low (values es) → Rising low (values (merged p es))
unfolding merged
rising_merged low p [] r = r
rising_merged low p (e ∷ es) r = rising_step low p e (merged p es) (r.0, rising_merged e.v p es r.1)

each_step : (p : ℕ) (e : Entry) (ns : List Entry) → Each p (e ∷ ns) → Each p (step p e ns)
unfolding step
each_step p e [] r = r
each_step p e (nx ∷ ns) r = step_cases (Each p) p e nx ns (λ h. (omega arith, omega arith, r.2.2)) r

pub each_merged : (p : ℕ) (es : List Entry) → Each p es → Each p (merged p es)
unfolding merged
each_merged p [] r = r
each_merged p (e ∷ es) r = each_step p e (merged p es) (r.0, r.1, each_merged p es r.2)

-- the last entry: what is behind e decides
last_step : (p : ℕ) (e : Entry) (ns : List Entry) → LastExact (e ∷ ns) → LastExact (step p e ns)
unfolding step
last_step p e [] r = r
last_step p e (nx ∷ []) r = step_cases LastExact p e nx [] (λ h. r) r
last_step p e (nx ∷ n2 ∷ ns) r = step_cases LastExact p e nx (n2 ∷ ns) (λ h. r) r

-- `step` leaves something, so an entry in front of it changes nothing of its last one
last_cons_step : (p : ℕ) (f e : Entry) (ns : List Entry) → LastExact (step p e ns) → LastExact (f ∷ step p e ns)
unfolding step
last_cons_step p f e [] = λ r. r
last_cons_step p f e (nx ∷ ns) =
    step_cases (λ (l : List Entry). LastExact l → LastExact (f ∷ l)) p e nx ns (λ h r. r) (λ r. r)

pub last_merged : (p : ℕ) (f : Entry) (es : List Entry) → LastExact (f ∷ es) → LastExact (f ∷ merged p es)
unfolding merged
last_merged p f [] r = r
last_merged p f (e ∷ es) r = last_cons_step p f e (merged p es) (last_step p e (merged p es) (last_merged p e es r))

module _ (X : List ℕ) where
  explained-step : (s p : ℕ) (e : Entry) (ns : List Entry) → ExplainedFrom X s (e ∷ ns) → ExplainedFrom X s (step p e ns)
  unfolding step
  explained-step s p e [] r = r
  explained-step s p e (nx ∷ ns) r =
      step_cases (ExplainedFrom X s) p e nx ns (λ h. rw (← (add_assoc s e.g nx.g)) r.1) r

  pub explained_merged : (s p : ℕ) (es : List Entry) → ExplainedFrom X s es → ExplainedFrom X s (merged p es)
  unfolding merged
  explained_merged s p [] r = r
  explained_merged s p (e ∷ es) r = explained-step s p e (merged p es) (r.0, explained_merged (s + e.g) p es r.1)

  pub explained_compress : (s p : ℕ) (es : List Entry) → ExplainedFrom X s es → ExplainedFrom X s (compress p es)
  unfolding compress
  explained_compress s p [] r = r
  explained_compress s p (f ∷ es) r = (r.0, explained_merged (s + f.g) p es r.1)

pub entries_compress : (p n : ℕ) (es : List Entry) → Entries p n es → Entries p n (compress p es)
unfolding compress
entries_compress p n [] s = s
entries_compress p n (f ∷ es) s = record {
  sorted = (s.sorted.0, rising_merged f.v p es s.sorted.1);
  each = (s.each.0, s.each.1, each_merged p es s.each.2);
  total = omega (arith, sum_merged p es);
  first = s.first;
  last = last_merged p f es s.last;
}
