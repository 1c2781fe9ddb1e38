-- Which states of a stream over a lent list are sound, and what every call but opening tests first.
-- Assumes nothing: these are definitions.
use Rattle.std.specs.Prelude.{Bool, ◌&&◌, cond, not, Result, Ok, Err, List, leb, eqb, length, take}
use Rattle.std.specs.Bool.{beq}
use Rattle.refusal.specs.declared.Refusal.{Refusal}
use Rattle.refusal.specs.declared.Refusal.TheVariants.{Slots, Damaged}
use Rattle.fraction.specs.Allowed.{is_epsilon}
use Rattle.fraction.specs.Products.{p_of}
use Rattle.entries.specs.declared.Entry.{Entry}
use Rattle.greenwald_khanna_theory.specs.Sound.{sound_entries}
use Rattle.greenwald_khanna_theory.specs.State.{State}
use Rattle.greenwald_khanna_steps.specs.declared.Stream.{Stream}
use Rattle.greenwald_khanna_steps.specs.Limits.{observations, slots_ok}

-- the observations and the summary that a stream holds in the lent list
abbrev pub state_of : Stream → List Entry → State
state_of st list = record { n = st.n; entries = take st.held list }

-- ε allowed; n within its limit; held within the slots; held is 0 exactly when n is; and the entries sound
unfoldable pub sound : Stream → List Entry → Bool
sound st list =
    is_epsilon st.epsilon
    && (leb st.n observations
    && (leb st.held (length list)
    && (beq (eqb st.held 0) (eqb st.n 0) && sound_entries (p_of st.epsilon st.n) st.n (take st.held list))))

-- the tests of every call: SLOTS, DAMAGED
unfoldable pub checked : Stream → List Entry → Result (Unit {0}) Refusal
checked st list =
    cond (not (slots_ok (length list))) (Err Slots)
    (cond (not (sound st list)) (Err Damaged)
    (Ok tt))
