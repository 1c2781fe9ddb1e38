-- The walk over the held places is the walk over the entries of the stream.
-- Assumes nothing.
use mathlib.Core.Path.{◌≡◌}
use Prim.Native.Nat.{ℕ, ◌+◌}
use mathlib.Core.Option.{some}
use mathlib.Core.List.{List, map}
use lib.ListN.{take}
use Rattle.fraction.specs.Products.{floor_mul}
use Rattle.entries.specs.declared.Entry.{Entry}
use Rattle.entries.proofs.Maps.{map_take}
use Rattle.greenwald_khanna_theory.specs.State.{answer_at}
use Rattle.greenwald_khanna_theory.specs.Walk.{look_up}
use Rattle.greenwald_khanna_steps.specs.declared.Stream.{Stream}
use Rattle.greenwald_khanna_steps.specs.Sound.{state_of}

pub looked_up : {A : Type 0} (entry : A → Entry) (st : Stream) (list : List A) (r e v : ℕ) → e ≡ floor_mul st.epsilon st.n
    → look_up (r + e) (map entry (take st.held list)) ≡ some v → answer_at st.epsilon (state_of st (map entry list)) r ≡ some v
unfolding answer_at
looked_up entry st list r e v h k = rw (← map_take entry st.held list, ← h) k
