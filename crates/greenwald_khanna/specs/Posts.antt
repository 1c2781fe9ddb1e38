-- What holds after each call but opening: its answer and the lent list as functions of the input; and demand 3, call by call.
-- Assumes nothing: these are definitions.
use Rattle.std.specs.Prelude.{◌≡◌, true, ℕ, List, [], ◌∷◌, ◌++◌, Result, Ok}
use Rattle.refusal.specs.declared.Refusal.{Refusal}
use Rattle.fraction.specs.declared.Fraction.{Fraction}
use Rattle.fraction.specs.Products.{e_of}
use Rattle.entries.specs.declared.Entry.{Entry}
use Rattle.greenwald_khanna_theory.specs.Answered.{WithinRanks}
use Rattle.greenwald_khanna_theory.specs.Explains.{Explains}
use Rattle.greenwald_khanna_theory.specs.State.{rank}
use Rattle.greenwald_khanna_steps.specs.declared.Stream.{Stream}
use Rattle.greenwald_khanna_steps.specs.Sound.{sound, state_of}
use Rattle.greenwald_khanna.specs.Answers.{inserted, inserted_list, quantiled}

-- an accepted insert leaves a sound stream, and a list that explained it explains it with the observation added
pub record InsertPost (st : Stream) (before : List Entry) (x : ℕ) (answer : Result Stream Refusal) (list : List Entry) : Type 0 where
  pub answered : answer ≡ inserted st before x
  pub left : list ≡ inserted_list st before x
  pub kept : (next : Stream) → answer ≡ Ok next
      → (sound next list ≡ true) × ((X : List ℕ) → Explains X (state_of st before) → Explains (X ++ x ∷ []) (state_of next list))

-- the value is within the ranks, for every list that explains the stream
pub record QuantilePost (st : Stream) (list : List Entry) (φ : Fraction) (answer : Result ℕ Refusal) : Type 0 where
  pub answered : answer ≡ quantiled st list φ
  pub within : (v : ℕ) → answer ≡ Ok v → (X : List ℕ) → Explains X (state_of st list)
      → WithinRanks X (rank φ st.n) (e_of st.epsilon st.n) v
