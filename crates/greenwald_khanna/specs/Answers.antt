-- What an insert and a quantile answer, and the lent list that an insert leaves, on every input. The tests stand in the order of the refusals.
-- Assumes nothing: these are definitions.
use Rattle.std.specs.Prelude.{ℕ, suc, cond, not, List, leb, length, Result, Ok, Err}
use Rattle.std.proofs.Math.Option.{Option, none, some}
use Rattle.refusal.specs.declared.Refusal.{Refusal}
use Rattle.refusal.specs.declared.Refusal.TheVariants.{Slots, Damaged, Count, Full, Phi, Empty}
use Rattle.fraction.specs.declared.Fraction.{Fraction}
use Rattle.fraction.specs.Allowed.{is_phi}
use Rattle.entries.specs.declared.Entry.{Entry}
use Rattle.entries.specs.Entry.{zero_entry}
use Rattle.entries.specs.Lists.{layout}
use Rattle.greenwald_khanna_theory.specs.State.{quantile}
use Rattle.greenwald_khanna_steps.specs.declared.Stream.{Stream}
use Rattle.greenwald_khanna_steps.specs.Limits.{observations, slots_ok}
use Rattle.greenwald_khanna_steps.specs.Sound.{sound, state_of}
use Rattle.greenwald_khanna_steps.specs.Steps.{after, stream_of}

-- inserting: SLOTS, DAMAGED, COUNT, FULL; else the stream with the observation
unfoldable pub inserted : Stream → List Entry → ℕ → Result Stream Refusal
inserted st list x =
    cond (not (slots_ok (length list))) (Err Slots)
    (cond (not (sound st list)) (Err Damaged)
    (cond (leb observations st.n) (Err Count)
    (cond (leb (length list) st.held) (Err Full)
    (Ok (stream_of st.epsilon (after st list x))))))

-- the lent list afterwards: the entries, zeros in the slots freed in the call, the rest as it was; all as it was where the insert is refused
abbrev pub left_by : Result Stream Refusal → List Entry → List Entry → List Entry
left_by (Ok st) new old = new
left_by (Err why) new old = old

abbrev pub inserted_list : Stream → List Entry → ℕ → List Entry
inserted_list st list x = left_by (inserted st list x) (layout zero_entry (after st list x).entries (suc st.held) list) list

-- a value, or EMPTY where there is none
abbrev pub value_of : Option ℕ → Result ℕ Refusal
value_of none = Err Empty
value_of (some v) = Ok v

-- the quantile: SLOTS, DAMAGED, PHI, EMPTY; else its value
unfoldable pub quantiled : Stream → List Entry → Fraction → Result ℕ Refusal
quantiled st list φ =
    cond (not (slots_ok (length list))) (Err Slots)
    (cond (not (sound st list)) (Err Damaged)
    (cond (not (is_phi φ)) (Err Phi)
    (value_of (quantile st.epsilon (state_of st list) φ))))
