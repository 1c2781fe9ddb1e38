-- Each refusal is given exactly when its test fails and the tests before it pass.
-- Assumes nothing.
use Rattle.std.specs.Prelude.{Ok, Err}
use mathlib.Core.Path.{◌≡◌, ap, ◌∙◌}
use Prim.Native.Nat.{ℕ, ◌<◌}
use mathlib.Core.Bool.{Bool, true, not}
use mathlib.Core.Option.{Option, none, some}
use mathlib.Core.List.{List}
use native.Mathlib.Omega.{arith}
use borrow.Author.Tests.{leb-true, leb-false, le-leb, lt-leb}
use lib.Dec.{leb}
use lib.ListN.{length}
use Rattle.refusal.specs.declared.Refusal.{Refusal}
use Rattle.refusal.specs.declared.Refusal.TheVariants.{Phi, Empty}
use Rattle.fraction.specs.declared.Fraction.{Fraction}
use Rattle.fraction.specs.Allowed.{is_epsilon, is_phi}
use Rattle.entries.specs.declared.Entry.{Entry}
use Rattle.entries.proofs.Choose.{by_order}
use Rattle.entries.proofs.Guards.{differ, refused, passed, unmet, met, neither, both_passed, first_refused, second_refused}
use Rattle.greenwald_khanna_theory.specs.State.{quantile}
use Rattle.greenwald_khanna_steps.specs.declared.Stream.{Stream}
use Rattle.greenwald_khanna_steps.specs.Steps.{after, stream_of}
use Rattle.greenwald_khanna_steps.specs.Limits.{observations, slots_ok}
use Rattle.greenwald_khanna_steps.specs.Sound.{sound, state_of}
use Rattle.greenwald_khanna_steps.proofs.Sounds.{sound_facts}
use Rattle.greenwald_khanna_steps.specs.Opening.{opened}
use Rattle.greenwald_khanna.specs.Answers.{inserted, value_of, quantiled}
use Rattle.greenwald_khanna.specs.Refusals.{OpenExactly, InsertExactly, QuantileExactly}
use Rattle.greenwald_khanna.proofs.Asking.{quantile_none, quantile_some}
use Rattle.greenwald_khanna_steps.proofs.Fresh.{fresh_stream, open_passes}
use Rattle.greenwald_khanna.proofs.Cases.{taken_passes, passes_taken, value_passes, passes_value}

pub open_exactly : (ε : Fraction) (list : List Entry) → OpenExactly ε list
unfolding opened
open_exactly ε list = record {
  slots = first_refused (slots_ok (length list)) (is_epsilon ε) (λ e. differ (cc)) (λ a b e. differ (cc));
  epsilon = second_refused (slots_ok (length list)) (is_epsilon ε) (λ e. differ (cc)) (λ a b e. differ (cc));
  opens = (λ h. let t = open_passes ε list h.0 h.1 in (t.0, t.1), λ h. (fresh_stream ε, rw (h.0, h.1)));
}

pub insert_exactly : (st : Stream) (list : List Entry) (x : ℕ) → InsertExactly st list x
unfolding inserted
insert_exactly st list x =
    let a : Bool = slots_ok (length list) in
    let b : Bool = sound st list in
    let c : Bool = leb observations st.n in
    let d : Bool = leb (length list) st.held in
    record {
      slots = first_refused a b (λ e. differ (cc)) (λ _ _. neither c (λ e. differ (cc)) (neither d (λ e. differ (cc)) (λ e. differ (cc))));
      damaged = second_refused a b (λ e. differ (cc)) (λ _ _. neither c (λ e. differ (cc)) (neither d (λ e. differ (cc)) (λ e. differ (cc))));
      count = (
        λ e.
            let t = both_passed a b e (λ z. differ (cc)) (λ z. differ (cc)) in
            let k = refused c t.2 (neither d (λ z. differ (cc)) (λ z. differ (cc))) in
            (t.0, t.1, omega (arith, (sound_facts st list t.1).count, leb-true observations st.n k)),
        λ h. rw (h.0, h.1, le-leb observations st.n (omega arith)),
      );
      full = (
        λ e.
            let t = both_passed a b e (λ z. differ (cc)) (λ z. differ (cc)) in
            let k = passed c t.2 (λ z. differ (cc)) in
            let l = refused d k.1 (λ z. differ (cc)) in (
              t.0,
              t.1,
              leb-false observations st.n k.0,
              omega (arith, (sound_facts st list t.1).room, leb-true (length list) st.held l),
            ),
        λ h. rw (h.0, h.1, lt-leb observations st.n (omega arith), le-leb (length list) st.held (omega arith)),
      );
      taken = (λ h. (taken_passes st list x h.0 h.1).0, λ h. (stream_of st.epsilon (after st list x), passes_taken st list x h));
    }

-- a value is found, or EMPTY is the answer
value_apart : (o : Option ℕ) (why : Refusal) → (Empty ≡ why → ⊥) → value_of o ≡ Err why → ⊥
value_apart none why n e = n (cc)
value_apart (some v) why n e = differ (cc)

value_none : (o : Option ℕ) → value_of o ≡ Err Empty → o ≡ none
value_none none e = cc
value_none (some v) e = absurd (differ (cc))

-- no value is found exactly when nothing was accepted
nothing : (st : Stream) (list : List Entry) (φ : Fraction) → sound st list ≡ true → is_phi φ ≡ true
    → quantile st.epsilon (state_of st list) φ ≡ none → st.n ≡ 0
nothing st list φ h k e =
    let f = sound_facts st list h in
    by_order 0 st.n
    (λ one.
    let v = quantile_some st.epsilon (state_of st list) φ f.epsilon f.entries k one in
    absurd (differ (cc (v.1, e))))
    (λ z. omega arith)

something : (st : Stream) (list : List Entry) (φ : Fraction) → sound st list ≡ true → (v : ℕ)
    → value_of (quantile st.epsilon (state_of st list) φ) ≡ Ok v → 0 < st.n
something st list φ h v e =
    by_order 0 st.n
    (λ one. one)
    (λ z.
    let no : value_of (quantile st.epsilon (state_of st list) φ) ≡ Err Empty =
    ap value_of (quantile_none st.epsilon (state_of st list) φ (sound_facts st list h).entries (omega arith)) in
    absurd (differ (cc (e, no))))

pub quantile_exactly : (st : Stream) (list : List Entry) (φ : Fraction) → QuantileExactly st list φ
unfolding quantiled
quantile_exactly st list φ =
    let a : Bool = slots_ok (length list) in
    let b : Bool = sound st list in
    let c : Bool = is_phi φ in
    let o : Option ℕ = quantile st.epsilon (state_of st list) φ in
    record {
      slots = first_refused a b (λ e. differ (cc)) (λ _ _. neither (not c) (λ e. differ (cc)) (value_apart o _ (λ e. differ (cc))));
      damaged = second_refused a b (λ e. differ (cc)) (λ _ _. neither (not c) (λ e. differ (cc)) (value_apart o _ (λ e. differ (cc))));
      phi = (
        λ e.
            let t = both_passed a b e (λ z. differ (cc)) (λ z. differ (cc)) in
            (t.0, t.1, unmet c t.2 (value_apart o Phi (λ z. differ (cc)))),
        λ h. rw (h.0, h.1, h.2),
      );
      empty = (
        λ e.
            let t = both_passed a b e (λ z. differ (cc)) (λ z. differ (cc)) in
            let k = met c t.2 (λ z. differ (cc)) in
            (t.0, t.1, k.0, nothing st list φ t.1 k.0 (value_none o k.1)),
        λ h. passes_value st list φ h.0 h.1 h.2 ∙ ap value_of (quantile_none st.epsilon (state_of st list) φ (sound_facts st list h.1).entries (omega arith)),
      );
      value = (
        λ h.
            let t = value_passes st list φ h.0 h.1 in
            (t.0, t.1, t.2, something st list φ t.1 h.0 t.3),
        λ h.
            let f = sound_facts st list h.1 in
            let v = quantile_some st.epsilon (state_of st list) φ f.epsilon f.entries h.2 h.3 in
            (v.0, passes_value st list φ h.0 h.1 h.2 ∙ ap value_of v.1),
      );
    }
