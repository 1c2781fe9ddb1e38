-- A quantile of a sound stream: none with nothing accepted, else a value within the ranks of every list that explains the stream.
-- Assumes nothing.
use Rattle.std.specs.Prelude.{Ok}
use mathlib.Core.Path.{◌≡◌, refl, ap, subst}
use Prim.Native.Nat.{ℕ, ◌≤◌, ◌<◌}
use mathlib.Core.Bool.{true}
use mathlib.Core.Option.{none, some}
use mathlib.Core.List.{List, [], ◌∷◌}
use native.Mathlib.Nat.{div-le_of_le-mul, mul-le-mul_right}
use native.Mathlib.Omega.{arith}
use lib.ListN.{length}
use Rattle.entries.specs.declared.Entry.{Entry}
use Rattle.entries.proofs.Choose.{by_order}
use Rattle.entries.proofs.Guards.{differ}
use Rattle.fraction.specs.declared.Fraction.{Fraction}
use Rattle.fraction.specs.Allowed.{is_phi, is_epsilon}
use Rattle.fraction.specs.Products.{e_of}
use Rattle.fraction.proofs.Tests.{phi_facts}
use Rattle.greenwald_khanna_theory.specs.Answered.{WithinRanks}
use Rattle.greenwald_khanna_theory.specs.Explains.{Explains}
use Rattle.greenwald_khanna_theory.specs.Promises.{Sound, QuantileAnswers, EachExplained, HeldWithin}
use Rattle.greenwald_khanna_theory.specs.State.{State, answer_at, quantile, rank}
use Rattle.greenwald_khanna_theory.specs.Walk.{look_up}
use Rattle.greenwald_khanna_theory.proofs.Explaining.{quantile_answers, each_explained, held_within}
use Rattle.greenwald_khanna_steps.specs.declared.Stream.{Stream}
use Rattle.greenwald_khanna_steps.specs.Sound.{state_of}
use Rattle.greenwald_khanna_steps.proofs.Sounds.{Facts, sound_facts}
use Rattle.greenwald_khanna.specs.Answers.{value_of, quantiled}
use Rattle.greenwald_khanna.proofs.Cases.{value_passes}

none_looked_up : (limit : ℕ) (es : List Entry) → length es ≤ 0 → look_up limit es ≡ none
unfolding look_up
none_looked_up limit [] h = refl
none_looked_up limit (e ∷ es) h = absurd (omega arith)

-- the rank asked for is at most n
pub rank_within : (φ : Fraction) (n : ℕ) → is_phi φ ≡ true → rank φ n ≤ n
rank_within φ n h = div-le_of_le-mul φ.den (mul-le-mul_right n (phi_facts φ h).2)

-- with nothing accepted there is no value
pub quantile_none : (ε : Fraction) (s : State) (φ : Fraction) → Sound ε s → s.n < 1 → quantile ε s φ ≡ none
unfolding quantile answer_at HeldWithin
quantile_none ε s φ h z = none_looked_up _ s.entries (omega (arith, held_within ε s h))

-- with something accepted there is one
pub quantile_some : (ε : Fraction) (s : State) (φ : Fraction) → is_epsilon ε ≡ true → Sound ε s → is_phi φ ≡ true → 1 ≤ s.n
    → (v : ℕ) × (quantile ε s φ ≡ some v)
unfolding QuantileAnswers EachExplained
quantile_some ε s φ a h b one =
    let k = each_explained ε s h in
    let q = quantile_answers ε a s h one φ b k.0 k.1 in
    (q.0, q.1)

-- a value that is given is within the ranks
pub value_within : (st : Stream) (list : List Entry) (φ : Fraction) (v : ℕ) → quantiled st list φ ≡ Ok v → (X : List ℕ) → Explains X (state_of st list)
    → WithinRanks X (rank φ st.n) (e_of st.epsilon st.n) v
unfolding QuantileAnswers
value_within st list φ v e X k =
    let t = value_passes st list φ v e in
    by_order st.n 1
    (λ z.
    let no : value_of (quantile st.epsilon (state_of st list) φ) ≡ value_of none =
    ap value_of (quantile_none st.epsilon (state_of st list) φ (sound_facts st list t.1).entries z) in
    absurd (differ (cc (t.3, no))))
    (λ one.
    let f : Facts st list = sound_facts st list t.1 in
    let q = quantile_answers st.epsilon f.epsilon (state_of st list) f.entries one φ t.2 X k in
    let found : value_of (quantile st.epsilon (state_of st list) φ) ≡ Ok q.0 = ap value_of q.1 in
    let same : q.0 ≡ v = cc (found, t.3) in
    subst (λ (w : ℕ). WithinRanks X (rank φ st.n) (e_of st.epsilon st.n) w) same q.2)
