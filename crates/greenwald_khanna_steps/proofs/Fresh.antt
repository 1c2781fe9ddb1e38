-- A stream that opening gives is sound over the list that opening leaves, and the empty list explains it.
-- Assumes nothing.
use mathlib.Core.Path.{◌≡◌, ap, ◌∙◌}
use mathlib.Core.Bool.{true}
use Rattle.std.specs.Prelude.{Ok}
use mathlib.Core.List.{List, []}
use native.Mathlib.Omega.{arith}
use lib.ListN.{length, replicate, length-replicate}
use Rattle.entries.specs.declared.Entry.{Entry}
use Rattle.entries.specs.Entry.{zero_entry}
use Rattle.entries.proofs.Guards.{differ, both_passed}
use Rattle.fraction.specs.declared.Fraction.{Fraction}
use Rattle.fraction.specs.Allowed.{is_epsilon}
use Rattle.greenwald_khanna_theory.specs.Explains.{Explains}
use Rattle.greenwald_khanna_theory.specs.Promises.{FreshSound}
use Rattle.greenwald_khanna_theory.proofs.Explaining.{fresh_sound}
use Rattle.greenwald_khanna_steps.specs.declared.Stream.{Stream}
use Rattle.greenwald_khanna_steps.specs.Sound.{sound, state_of}
use Rattle.greenwald_khanna_steps.proofs.Sounds.{facts_sound}
use Rattle.greenwald_khanna_steps.specs.Limits.{slots_ok}
use Rattle.greenwald_khanna_steps.specs.Opening.{opened, opened_list}

-- the stream that has seen nothing, and the tests that opening passed
abbrev pub fresh_stream : Fraction → Stream
fresh_stream ε = record { epsilon = ε; n = 0; held = 0 }

pub open_passes : (ε : Fraction) (list : List Entry) (st : Stream) → opened ε list ≡ Ok st
    → (slots_ok (length list) ≡ true) × (is_epsilon ε ≡ true) × (st ≡ fresh_stream ε)
unfolding opened
open_passes ε list st e =
    let t = both_passed (slots_ok (length list)) (is_epsilon ε) e (λ z. differ (cc)) (λ z. differ (cc)) in
    (t.0, t.1, cc t.2)

module _ (ε : Fraction) (before : List Entry) (st : Stream) (e : opened ε before ≡ Ok st) where
  pub opened_zero : opened_list ε before ≡ replicate (length before) zero_entry
  opened_zero = rw e

  pub opened_length : length (opened_list ε before) ≡ length before
  opened_length = ap length opened_zero ∙ length-replicate (length before) zero_entry

  pub opened_epsilon : st.epsilon ≡ ε
  opened_epsilon = ap (λ (s : Stream). s.epsilon) (open_passes ε before st e).2

  pub opened_fresh : (list : List Entry) → (sound st list ≡ true) × Explains [] (state_of st list)
  unfolding FreshSound
  opened_fresh list =
      let t = open_passes ε before st e in
      rw t.2 (
        facts_sound (record { epsilon = ε; n = 0; held = 0 }) list (record { epsilon = t.1; count = omega arith; room = omega arith; entries = (fresh_sound ε).0 }),
        (fresh_sound ε).1,
      )
