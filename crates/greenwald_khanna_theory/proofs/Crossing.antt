-- Of one sound stream a larger φ never gives a smaller value, every answer lies between the first and the last entry's value, and those two are
-- the smallest and the largest observation.
-- Assumes nothing.
use mathlib.Core.Path.{◌≡◌}
use mathlib.Core.Bool.{true}
use Prim.Native.Nat.{ℕ, ◌+◌, ◌*◌, ◌≤◌, ◌<◌}
use native.Mathlib.Nat.{zero-add, le-div_iff_mul-le, div-mul-le_self, lt_of_mul-lt-mul_left, mul-le-mul_right}
use mathlib.Core.List.{List, [], ◌∷◌}
use mathlib.Core.Option.{some}
use native.Mathlib.Omega.{arith}
use lib.ListN.{length}
use Rattle.entries.proofs.Choose.{lt-cases}
use Rattle.entries.proofs.Counting.{upto_le_length}
use Rattle.entries.proofs.Sorting.{stands}
use Rattle.entries.specs.declared.Entry.{Entry}
use Rattle.entries.specs.Entry.{values, sum_g}
use Rattle.entries.specs.Ranks.{Rising, below, upto}
use Rattle.fraction.proofs.Tests.{phi_facts}
use Rattle.fraction.specs.declared.Fraction.{Fraction}
use Rattle.fraction.specs.Allowed.{is_phi}
use Rattle.fraction.specs.Products.{floor_mul, e_of}
use Rattle.greenwald_khanna_theory.specs.Promises.{last_value, NeverCross, BetweenEnds, EndsAreExtremes}
use Rattle.greenwald_khanna_theory.specs.State.{State, rank, answer_at, quantile}
use Rattle.greenwald_khanna_theory.specs.Walk.{walk, look_up}
use Rattle.greenwald_khanna_theory.proofs.Bound.{Ruled}
use Rattle.greenwald_khanna_theory.proofs.Counts.{Explained, ExplainedFrom, Counted}
use Rattle.greenwald_khanna_theory.proofs.Explaining.{rules, by_count}
use Rattle.greenwald_khanna_theory.proofs.Rules.{FirstExact}

walk_ge : (limit s pv : ℕ) (es : List Entry) → Rising pv (values es) → pv ≤ walk limit s pv es
unfolding walk
walk_ge limit s pv [] r = omega arith
walk_ge limit s pv (e ∷ es) r =
    lt-cases (λ (w : ℕ). pv ≤ w) limit (s + e.g + e.delta) (λ h. omega arith) (λ h. omega (arith, walk_ge limit (s + e.g) e.v es r.1))

walk_le : (limit s pv : ℕ) (es : List Entry) → Rising pv (values es) → (walk limit s pv es ≤ last_value pv es) × (pv ≤ last_value pv es)
unfolding walk
walk_le limit s pv [] r = (omega arith, omega arith)
walk_le limit s pv (e ∷ es) r =
    let ih : (walk limit (s + e.g) e.v es ≤ last_value e.v es) × (e.v ≤ last_value e.v es) = walk_le limit (s + e.g) e.v es r.1 in
    (lt-cases (λ (w : ℕ). w ≤ last_value e.v es) limit (s + e.g + e.delta) (λ h. omega arith) (λ h. omega arith), omega arith)

walk_mono : (a b s pv : ℕ) (es : List Entry) → a ≤ b → Rising pv (values es) → walk a s pv es ≤ walk b s pv es
unfolding walk
walk_mono a b s pv [] h r = omega arith
walk_mono a b s pv (e ∷ es) h r =
    lt-cases (λ (w : ℕ). w ≤ walk b s pv (e ∷ es)) a (s + e.g + e.delta)
    (λ k. walk_ge b s pv (e ∷ es) r)
    (λ k. lt-cases (λ (w : ℕ). walk a (s + e.g) e.v es ≤ w) b (s + e.g + e.delta)
    (λ l. absurd (omega arith))
    (λ l. walk_mono a b (s + e.g) e.v es h r.1))

some_inj : (x y : ℕ) → some x ≡ some y → x ≡ y
some_inj x y p = cc

answer_mono : (ε : Fraction) (s : State) → Ruled ε s → (r t a b : ℕ) → r ≤ t → answer_at ε s r ≡ some a → answer_at ε s t ≡ some b → a ≤ b
unfolding answer_at look_up
answer_mono ε s h r t a b le p q = go s.entries h.sorted p q
  where
    go : (es : List Entry) → Rising 0 (values es) → look_up (r + e_of ε s.n) es ≡ some a → look_up (t + e_of ε s.n) es ≡ some b → a ≤ b
    go [] k p' q' = let z : ◌≡◌ {A = ℕ} 0 1 = cc in omega arith
    go (f ∷ es) k p' q' =
        omega (arith, some_inj _ a p', some_inj _ b q', walk_mono (r + e_of ε s.n) (t + e_of ε s.n) f.g f.v es (omega arith) k.1)

-- the rank grows with φ
rank_mono : (φ ψ : Fraction) (n : ℕ) → is_phi φ ≡ true → is_phi ψ ≡ true → φ.num * ψ.den ≤ ψ.num * φ.den → rank φ n ≤ rank ψ n
rank_mono φ ψ n hφ hψ h =
    let f : (1 ≤ φ.den) × (φ.den ≤ 65536) × (φ.num ≤ φ.den) = phi_facts φ hφ in
    let g : (1 ≤ ψ.den) × (ψ.den ≤ 65536) × (ψ.num ≤ ψ.den) = phi_facts ψ hψ in
    let q : ℕ = floor_mul φ n in
    let a : q * φ.den ≤ φ.num * n = div-mul-le_self (φ.num * n) φ.den in
    let b : φ.den * (q * ψ.den) < φ.den * (ψ.num * n + 1) =
    omega (arith, mul-le-mul_right ψ.den a, mul-le-mul_right n h) in
    let c : q * ψ.den < ψ.num * n + 1 = lt_of_mul-lt-mul_left φ.den b in
    (le-div_iff_mul-le g.0).1 (omega arith)

pub never_cross : NeverCross
unfolding NeverCross quantile
never_cross ε s h φ ψ hφ hψ le a b p q = answer_mono ε s (rules ε s h) (rank φ s.n) (rank ψ s.n) a b (rank_mono φ ψ s.n hφ hψ le) p q

pub between_ends : BetweenEnds
unfolding BetweenEnds answer_at look_up
between_ends ε s h f es e r a p =
    let k : Rising 0 (values (f ∷ es)) = rw e at (rules ε s h).sorted in
    let w : some (walk (r + e_of ε s.n) f.g f.v es) ≡ some a = rw e at p in
    omega (arith, some_inj _ a w, walk_ge (r + e_of ε s.n) f.g f.v es k.1, walk_le (r + e_of ε s.n) f.g f.v es k.1)

last_full : (X : List ℕ) (s pv : ℕ) (es : List Entry) → s + sum_g es ≡ length X → ExplainedFrom X s es → s ≤ upto X pv → below X pv < upto X pv
    → (length X ≤ upto X (last_value pv es)) × (below X (last_value pv es) < upto X (last_value pv es))
last_full X s pv [] tot k u o = (omega arith, o)
last_full X s pv (e ∷ es) tot k u o = last_full X (s + e.g) e.v es (omega arith) k.1 k.0.low k.0.occurs

pub ends_are_extremes : EndsAreExtremes
unfolding EndsAreExtremes
ends_are_extremes ε s hs X hX f es e =
    let h : Ruled ε s = rules ε s hs in
    let x : Counted X s = by_count X s hX in
    let k : ExplainedFrom X 0 (f ∷ es) = rw e at x.entries in
    let k0 : Explained X f.g f.v f.delta × ExplainedFrom X f.g es = rw (zero-add f.g) at k in
    let one : FirstExact (f ∷ es) = rw e at h.first in
    let tot : sum_g (f ∷ es) ≡ s.n = rw e at h.total in
    let l : (length X ≤ upto X (last_value f.v es)) × (below X (last_value f.v es) < upto X (last_value f.v es)) =
    last_full X f.g f.v es (omega (arith, x.members)) k0.1 k0.0.low k0.0.occurs in (
      stands X f.v 1 (omega arith) (omega arith),
      stands X (last_value f.v es) (length X) (omega (arith, upto_le_length X (last_value f.v es))) l.0,
    )
