-- A quantile of a sound stream that has accepted something is a value within the ranks of every list that explains the stream.
-- Assumes nothing.
use mathlib.Core.Path.{◌≡◌}
use Prim.Native.Nat.{ℕ, ◌≤◌}
use mathlib.Core.Bool.{true}
use mathlib.Core.List.{List}
use lib.ListN.{length}
use Rattle.fraction.specs.declared.Fraction.{Fraction}
use Rattle.fraction.specs.Allowed.{is_phi}
use Rattle.fraction.specs.Products.{e_of}
use Rattle.entries.specs.declared.Entry.{Entry}
use Rattle.greenwald_khanna_theory.specs.Explains.{Explains}
use Rattle.greenwald_khanna_theory.specs.State.{rank}
use Rattle.greenwald_khanna_steps.specs.declared.Stream.{Stream}
use Rattle.greenwald_khanna_steps.specs.Limits.{slots_ok}
use Rattle.greenwald_khanna_steps.specs.Sound.{sound, state_of}
use Rattle.greenwald_khanna.specs.Answers.{quantiled}
use Rattle.greenwald_khanna.proofs.Asking.{value_within}
use Rattle.greenwald_khanna.proofs.Exactly.{quantile_exactly}
use Rattle.noise_floor.specs.Demand3.{Answered}

module _ (st : Stream) (list : List Entry) (φ : Fraction) (a : slots_ok (length list) ≡ true) (b : sound st list ≡ true) (c : is_phi φ ≡ true) where
  pub answered_within : (X : List ℕ) → Explains X (state_of st list) → 1 ≤ st.n
      → Answered X (rank φ st.n) (e_of st.epsilon st.n) (quantiled st list φ)
  answered_within X k one =
      let v = (quantile_exactly st list φ).value.1 (a, b, c, one) in
      record { value = v.0; answers = v.1; within = value_within st list φ v.0 v.1 X k }
