-- What an answer says of the tests before it, and the tests of the answer.
-- Assumes nothing.
use Rattle.std.specs.Prelude.{Ok}
use mathlib.Core.Path.{◌≡◌}
use Prim.Native.Nat.{ℕ, suc}
use mathlib.Core.Bool.{true}
use mathlib.Core.List.{List}
use native.Mathlib.Omega.{arith}
use borrow.Author.Tests.{leb-false, lt-leb}
use lib.Dec.{leb}
use lib.ListN.{length}
use Rattle.fraction.specs.declared.Fraction.{Fraction}
use Rattle.fraction.specs.Allowed.{is_phi}
use Rattle.entries.specs.declared.Entry.{Entry}
use Rattle.entries.specs.Entry.{zero_entry}
use Rattle.entries.specs.Lists.{layout}
use Rattle.entries.proofs.Guards.{differ, passed, met, both_passed}
use Rattle.greenwald_khanna_steps.specs.declared.Stream.{Stream}
use Rattle.greenwald_khanna_steps.specs.Steps.{after, stream_of}
use Rattle.greenwald_khanna_steps.specs.Limits.{observations, slots_ok}
use Rattle.greenwald_khanna_steps.specs.Sound.{sound, state_of}
use Rattle.greenwald_khanna_steps.specs.Steps.{Accepts}
use Rattle.greenwald_khanna.specs.Answers.{inserted, inserted_list, value_of, quantiled}
use Rattle.greenwald_khanna_theory.specs.State.{quantile}

module _ (st : Stream) (list : List Entry) (x : ℕ) where
  pub taken_passes : (next : Stream) → inserted st list x ≡ Ok next → Accepts st list × (next ≡ stream_of st.epsilon (after st list x))
  unfolding inserted
  taken_passes next e =
      let t = both_passed (slots_ok (length list)) (sound st list) e (λ z. differ (cc)) (λ z. differ (cc)) in
      let c = passed (leb observations st.n) t.2 (λ z. differ (cc)) in
      let d = passed (leb (length list) st.held) c.1 (λ z. differ (cc)) in (
        record {
          slots = t.0;
          unharmed = t.1;
          count = omega (arith, leb-false observations st.n c.0);
          room = omega (arith, leb-false (length list) st.held d.0);
        },
        cc d.1,
      )

  pub passes_taken : Accepts st list → inserted st list x ≡ Ok (stream_of st.epsilon (after st list x))
  unfolding inserted
  passes_taken p =
      rw (p.slots, p.unharmed, lt-leb observations st.n p.count, lt-leb (length list) st.held p.room)

  -- the list after an accepted insert
  pub taken_list : (next : Stream) → inserted st list x ≡ Ok next
      → inserted_list st list x ≡ layout zero_entry (after st list x).entries (suc st.held) list
  taken_list next e = rw e

-- a quantile: its tests, and the value found
pub value_passes : (st : Stream) (list : List Entry) (φ : Fraction) (v : ℕ) → quantiled st list φ ≡ Ok v
    → (slots_ok (length list) ≡ true) × (sound st list ≡ true) × (is_phi φ ≡ true) × (value_of (quantile st.epsilon (state_of st list) φ) ≡ Ok v)
unfolding quantiled
value_passes st list φ v e =
    let t = both_passed (slots_ok (length list)) (sound st list) e (λ z. differ (cc)) (λ z. differ (cc)) in
    let c = met (is_phi φ) t.2 (λ z. differ (cc)) in
    (t.0, t.1, c.0, c.1)

pub passes_value : (st : Stream) (list : List Entry) (φ : Fraction) → slots_ok (length list) ≡ true → sound st list ≡ true → is_phi φ ≡ true
    → quantiled st list φ ≡ value_of (quantile st.epsilon (state_of st list) φ)
unfolding quantiled
passes_value st list φ a b c = rw (a, b, c)
