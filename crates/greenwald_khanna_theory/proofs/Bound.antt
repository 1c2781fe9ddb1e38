-- The heart of demand 3: inserting keeps a stream sound and explained, and of such a stream every quantile is answered within the ranks.
-- Assumes nothing.
use mathlib.Core.Path.{◌≡◌, refl}
use Prim.Native.Nat.{ℕ, ◌+◌, ◌-◌, ◌*◌, ◌≤◌, ◌%◌, max}
use mathlib.Core.List.{List, [], ◌∷◌, ◌++◌}
use mathlib.Core.Option.{some}
use native.Mathlib.Omega.{arith}
use lib.ListN.{length-append}
use lib.Dec.{eqb}
use Rattle.entries.proofs.Choose.{cond_cases}
use Rattle.entries.proofs.Sorting.{stands, stands_member}
use Rattle.entries.specs.Ranks.{StandsAt, below}
use Rattle.fraction.proofs.Laws.{p_mono, p_twice}
use Rattle.fraction.specs.declared.Fraction.{Fraction}
use Rattle.fraction.specs.Products.{p_of, e_of, period}
use Rattle.greenwald_khanna_theory.specs.Answered.{WithinRanks}
use Rattle.greenwald_khanna_theory.specs.State.{State, fresh, grown, tidied, insert, answer_at}
use Rattle.greenwald_khanna_theory.specs.Walk.{look_up}
use Rattle.greenwald_khanna_theory.proofs.Answering.{Near, look_up_near}
use Rattle.greenwald_khanna_theory.proofs.Counts.{Counted}
use Rattle.greenwald_khanna_theory.proofs.Merging.{entries_compress, explained_compress}
use Rattle.greenwald_khanna_theory.proofs.Putting.{entries_put, explained_put_in}
use Rattle.greenwald_khanna_theory.proofs.Rules.{Entries}

-- the rules of soundness, as facts
abbrev pub Ruled : Fraction → State → Type 0
Ruled ε s = Entries (p_of ε s.n) s.n s.entries

module _ (ε : Fraction) where
  pub ruled_fresh : Ruled ε fresh
  ruled_fresh = record { sorted = tt; each = tt; total = refl; first = tt; last = tt }

  ruled-grown : (s : State) (x : ℕ) → Ruled ε s → Ruled ε (grown ε s x)
  unfolding grown
  ruled-grown s x h = entries_put (p_of ε s.n) (p_of ε (s.n + 1)) s.n x s.entries (p_mono ε (omega arith)) h

  pub ruled_tidied : (s : State) → Ruled ε s → Ruled ε (tidied ε s)
  unfolding tidied
  ruled_tidied s h = entries_compress (p_of ε s.n) s.n s.entries h

  pub ruled_insert : (s : State) (x : ℕ) → Ruled ε s → Ruled ε (insert ε s x)
  unfolding insert
  ruled_insert s x h =
      let t : State = grown ε s x in
      let k : Ruled ε t = ruled-grown s x h in
      cond_cases (Ruled ε) (eqb ((s.n + 1) % period ε) 0) (λ _. ruled_tidied t k) (λ _. k)

  module _ (X : List ℕ) where
    counted-grown : (s : State) (x : ℕ) → Ruled ε s → Counted X s → Counted (X ++ x ∷ []) (grown ε s x)
    unfolding grown
    counted-grown s x h c = record {
      members = omega (arith, length-append X (x ∷ []));
      entries = explained_put_in X x (p_of ε s.n) s.n s.entries h c.members c.entries;
    }

    pub counted_tidied : (s : State) → Counted X s → Counted X (tidied ε s)
    unfolding tidied
    counted_tidied s c = record { members = c.members; entries = explained_compress X 0 (p_of ε s.n) s.entries c.entries }

  pub counted_insert : (X : List ℕ) (s : State) (x : ℕ) → Ruled ε s → Counted X s → Counted (X ++ x ∷ []) (insert ε s x)
  unfolding insert
  counted_insert X s x h c =
      let t : State = grown ε s x in
      let k : Counted (X ++ x ∷ []) t = counted-grown X s x h c in
      cond_cases (Counted (X ++ x ∷ [])) (eqb ((s.n + 1) % period ε) 0) (λ _. counted_tidied (X ++ x ∷ []) t k) (λ _. k)

-- an answer at any rank r from 0 to n: only r ≤ n is used, so r may be rounded either way
pub answer_within : (ε : Fraction) (X : List ℕ) (s : State) → Ruled ε s → Counted X s → 1 ≤ s.n → (r : ℕ) → r ≤ s.n
    → (v : ℕ) × (answer_at ε s r ≡ some v) × WithinRanks X r (e_of ε s.n) v
unfolding answer_at
answer_within ε X s h c one r hr =
    let e : ℕ = e_of ε s.n in
    let p : ℕ = p_of ε s.n in
    let pe : p ≤ 2 * e + 1 = p_twice ε s.n in
    let a : (v : ℕ) × (look_up (r + e) s.entries ≡ some v) × Near X (r - e - 1) (r + e) v =
    look_up_near X p s.n (r - e - 1) (r + e) s.entries h c.members c.entries one (omega arith) (omega arith) in
    let k : ℕ = max (r - e - 1) (below X a.0 + 1) in
    let st : StandsAt X k a.0 = stands X a.0 k (omega arith) (omega arith) in
    (a.0, a.1, record { observed = stands_member X a.0 k st; rank = k; from = omega arith; to = omega arith; stands = st })
