-- What the public calls return meets their contracts: the answer and the list by their definitions, and with them demand 3 call by call.
-- Assumes nothing.
use Rattle.std.specs.Prelude.{Result, Ok, Err}
use mathlib.Core.Path.{◌≡◌, sym, ap, ◌∙◌}
use Prim.Native.Nat.{ℕ, suc, ◌<◌}
use mathlib.Core.Bool.{true}
use mathlib.Core.Option.{some}
use mathlib.Core.List.{List}
use lib.ListN.{length}
use Rattle.refusal.specs.declared.Refusal.{Refusal}
use Rattle.fraction.specs.declared.Fraction.{Fraction}
use Rattle.fraction.specs.Allowed.{is_phi}
use Rattle.fraction.specs.Products.{floor_mul}
use Rattle.greenwald_khanna_theory.specs.State.{answer_at, quantile}
use Rattle.entries.specs.declared.Entry.{Entry}
use Rattle.entries.proofs.Guards.{differ}
use Rattle.greenwald_khanna_steps.specs.declared.Stream.{Stream}
use Rattle.greenwald_khanna_steps.specs.Steps.{after, Accepts, Holds}
use Rattle.greenwald_khanna_steps.specs.Limits.{slots_ok, observations}
use Rattle.greenwald_khanna_steps.specs.Sound.{sound, state_of, checked}
use Rattle.greenwald_khanna_steps.proofs.Checks.{checked_passes, checked_refuses}
use Rattle.greenwald_khanna.specs.Answers.{inserted, inserted_list, value_of, quantiled}
use Rattle.greenwald_khanna.specs.Posts.{InsertPost, QuantilePost}
use Rattle.greenwald_khanna.proofs.Asking.{value_within}
use Rattle.greenwald_khanna.proofs.Cases.{passes_taken, taken_list, passes_value}
use Rattle.greenwald_khanna.proofs.Kept.{inserted_kept}

-- inserting
module _ (st : Stream) (before : List Entry) (x : ℕ) where
  pub insert_refused : (why : Refusal) → inserted st before x ≡ Err why → InsertPost st before x (Err why) before
  insert_refused why e = record { answered = sym e; left = rw e; kept = λ next a. absurd (differ (cc a)) }

  -- what the tests of every call refuse
  pub insert_unchecked : (why : Refusal) → Err why ≡ checked st before → InsertPost st before x (Err why) before
  unfolding inserted
  insert_unchecked why e = insert_refused why (sym (checked_refuses st before _ why e))

  pub accepts : Ok tt ≡ checked st before → st.n < observations → st.held < length before → Accepts st before
  accepts e h k = let t = checked_passes st before e in record { slots = t.0; unharmed = t.1; count = h; room = k }

  pub insert_accepted : Accepts st before → (next : Stream) (list : List Entry)
      → Holds st.epsilon (after st before x) (suc st.held) before next list → InsertPost st before x (Ok next) list
  insert_accepted a next list h =
      let e : inserted st before x ≡ Ok next = passes_taken st before x a ∙ ap Ok (sym h.stream) in
      let l : list ≡ inserted_list st before x = h.entries ∙ sym (taken_list st before x next e) in
      record {
        answered = sym e;
        left = l;
        kept = λ other k. let m = inserted_kept st before x other (e ∙ k) in rw l (m.sound_is, m.explained);
      }

-- asking
module _ (st : Stream) (list : List Entry) (φ : Fraction) where
  pub asked_post : (answer : Result ℕ Refusal) → answer ≡ quantiled st list φ → QuantilePost st list φ answer
  asked_post answer e = record { answered = e; within = λ v a. value_within st list φ v (sym e ∙ a) }

  pub asked_unchecked : (why : Refusal) → Err why ≡ checked st list → QuantilePost st list φ (Err why)
  unfolding quantiled
  asked_unchecked why e = asked_post (Err why) (checked_refuses st list _ why e)

  pub asked_value : slots_ok (length list) ≡ true → sound st list ≡ true → is_phi φ ≡ true → (r v : ℕ) → r ≡ floor_mul φ st.n
      → answer_at st.epsilon (state_of st list) r ≡ some v → Ok v ≡ quantiled st list φ
  unfolding quantile
  asked_value a b c r v h k =
      let e : quantile st.epsilon (state_of st list) φ ≡ some v = rw (← h) k in
      sym (passes_value st list φ a b c ∙ ap value_of e)
