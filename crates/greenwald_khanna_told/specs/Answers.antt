-- What p, n and s answer on every input: SLOTS, DAMAGED, or what is told.
-- Assumes nothing: these are definitions.
use Rattle.std.specs.Prelude.{ℕ, cond, not, Result, Ok, Err, List, length}
use Rattle.refusal.specs.declared.Refusal.{Refusal}
use Rattle.refusal.specs.declared.Refusal.TheVariants.{Slots, Damaged}
use Rattle.fraction.specs.Products.{p_of}
use Rattle.entries.specs.declared.Entry.{Entry}
use Rattle.greenwald_khanna_steps.specs.declared.Stream.{Stream}
use Rattle.greenwald_khanna_steps.specs.Limits.{slots_ok}
use Rattle.greenwald_khanna_steps.specs.Sound.{sound}

-- a number of a sound stream: SLOTS, DAMAGED
unfoldable pub told : Stream → List Entry → ℕ → Result ℕ Refusal
told st list x =
    cond (not (slots_ok (length list))) (Err Slots)
    (cond (not (sound st list)) (Err Damaged)
    (Ok x))

-- p = ⌊2εn⌋, the observations, and the entries held
abbrev pub told_p : Stream → List Entry → Result ℕ Refusal
told_p st list = told st list (p_of st.epsilon st.n)

abbrev pub told_n : Stream → List Entry → Result ℕ Refusal
told_n st list = told st list st.n

abbrev pub told_s : Stream → List Entry → Result ℕ Refusal
told_s st list = told st list st.held
