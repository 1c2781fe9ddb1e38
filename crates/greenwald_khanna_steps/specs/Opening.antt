-- Opening: what it answers, the lent list that it leaves, and what holds afterwards.
-- Assumes nothing: these are definitions.
use Rattle.std.specs.Prelude.{◌≡◌, true, cond, not, Result, Ok, Err, List, [], length, replicate}
use Rattle.refusal.specs.declared.Refusal.{Refusal}
use Rattle.refusal.specs.declared.Refusal.TheVariants.{Slots, Epsilon}
use Rattle.fraction.specs.declared.Fraction.{Fraction}
use Rattle.fraction.specs.Allowed.{is_epsilon}
use Rattle.entries.specs.declared.Entry.{Entry}
use Rattle.entries.specs.Entry.{zero_entry}
use Rattle.greenwald_khanna_theory.specs.Explains.{Explains}
use Rattle.greenwald_khanna_steps.specs.declared.Stream.{Stream}
use Rattle.greenwald_khanna_steps.specs.Limits.{slots_ok}
use Rattle.greenwald_khanna_steps.specs.Sound.{sound, state_of}

-- opening: SLOTS, EPSILON; else a stream that has seen nothing
unfoldable pub opened : Fraction → List Entry → Result Stream Refusal
opened ε list =
    cond (not (slots_ok (length list))) (Err Slots)
    (cond (not (is_epsilon ε)) (Err Epsilon)
    (Ok (record { epsilon = ε; n = 0; held = 0 })))

-- the lent list afterwards: all slots zero, or as it was where opening is refused
abbrev pub zeroed_by : Result Stream Refusal → List Entry → List Entry
zeroed_by (Ok st) list = replicate (length list) zero_entry
zeroed_by (Err why) list = list

abbrev pub opened_list : Fraction → List Entry → List Entry
opened_list ε list = zeroed_by (opened ε list) list

-- a fresh stream is sound, and the empty list explains it
pub record OpenPost (ε : Fraction) (before : List Entry) (answer : Result Stream Refusal) (list : List Entry) : Type 0 where
  pub answered : answer ≡ opened ε before
  pub left : list ≡ opened_list ε before
  pub fresh : (st : Stream) → answer ≡ Ok st → (sound st list ≡ true) × Explains [] (state_of st list)
