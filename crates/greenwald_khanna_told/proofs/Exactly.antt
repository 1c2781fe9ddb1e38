-- Each refusal of a call that tells a number is given exactly when its test fails and the tests before it pass.
-- Assumes nothing.
use Prim.Native.Nat.{ℕ}
use mathlib.Core.Bool.{Bool}
use mathlib.Core.List.{List}
use lib.ListN.{length}
use Rattle.entries.specs.declared.Entry.{Entry}
use Rattle.entries.proofs.Guards.{differ, both_passed, first_refused, second_refused}
use Rattle.greenwald_khanna_steps.specs.declared.Stream.{Stream}
use Rattle.greenwald_khanna_steps.specs.Limits.{slots_ok}
use Rattle.greenwald_khanna_steps.specs.Sound.{sound}
use Rattle.greenwald_khanna_told.specs.Answers.{told}
use Rattle.greenwald_khanna_told.specs.Refusals.{ToldExactly}

pub told_exactly : (st : Stream) (list : List Entry) (x : ℕ) → ToldExactly st list x
unfolding told
told_exactly st list x =
    let a : Bool = slots_ok (length list) in
    let b : Bool = sound st list in
    record {
      slots = first_refused a b (λ e. differ (cc)) (λ _ _ e. differ (cc));
      damaged = second_refused a b (λ e. differ (cc)) (λ _ _ e. differ (cc));
      value = (λ e. let t = both_passed a b e (λ z. differ (cc)) (λ z. differ (cc)) in (t.0, t.1), λ h. rw (h.0, h.1));
    }
