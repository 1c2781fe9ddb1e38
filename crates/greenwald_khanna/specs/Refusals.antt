-- When each refusal is given: exactly in the case that the table lists for it, no earlier test having refused.
-- Assumes nothing: these are definitions.
use Rattle.std.specs.Prelude.{◌≡◌, true, false, ◌↔◌, ℕ, ◌<◌, List, length, Ok, Err}
use Rattle.refusal.specs.declared.Refusal.TheVariants.{Slots, Epsilon, Damaged, Count, Full, Phi, Empty}
use Rattle.fraction.specs.declared.Fraction.{Fraction}
use Rattle.fraction.specs.Allowed.{is_epsilon, is_phi}
use Rattle.entries.specs.declared.Entry.{Entry}
use Rattle.greenwald_khanna_steps.specs.declared.Stream.{Stream}
use Rattle.greenwald_khanna_steps.specs.Limits.{observations, slots_ok}
use Rattle.greenwald_khanna_steps.specs.Sound.{sound}
use Rattle.greenwald_khanna_steps.specs.Steps.{Accepts}
use Rattle.greenwald_khanna_steps.specs.Opening.{opened}
use Rattle.greenwald_khanna.specs.Answers.{inserted, quantiled}

pub record OpenExactly (ε : Fraction) (list : List Entry) : Type 0 where
  pub slots : opened ε list ≡ Err Slots ↔ slots_ok (length list) ≡ false
  pub epsilon : opened ε list ≡ Err Epsilon ↔ ((slots_ok (length list) ≡ true) × (is_epsilon ε ≡ false))
  pub opens : ((st : Stream) × (opened ε list ≡ Ok st)) ↔ ((slots_ok (length list) ≡ true) × (is_epsilon ε ≡ true))

-- COUNT: n is at its limit. FULL: as many entries are held as there are slots
pub record InsertExactly (st : Stream) (list : List Entry) (x : ℕ) : Type 0 where
  pub slots : inserted st list x ≡ Err Slots ↔ slots_ok (length list) ≡ false
  pub damaged : inserted st list x ≡ Err Damaged ↔ ((slots_ok (length list) ≡ true) × (sound st list ≡ false))
  pub count : inserted st list x ≡ Err Count
      ↔ ((slots_ok (length list) ≡ true) × (sound st list ≡ true) × (st.n ≡ observations))
  pub full : inserted st list x ≡ Err Full
      ↔ ((slots_ok (length list) ≡ true) × (sound st list ≡ true) × (st.n < observations) × (st.held ≡ length list))
  pub taken : ((next : Stream) × (inserted st list x ≡ Ok next)) ↔ Accepts st list

-- EMPTY: nothing was accepted
pub record QuantileExactly (st : Stream) (list : List Entry) (φ : Fraction) : Type 0 where
  pub slots : quantiled st list φ ≡ Err Slots ↔ slots_ok (length list) ≡ false
  pub damaged : quantiled st list φ ≡ Err Damaged ↔ ((slots_ok (length list) ≡ true) × (sound st list ≡ false))
  pub phi : quantiled st list φ ≡ Err Phi ↔ ((slots_ok (length list) ≡ true) × (sound st list ≡ true) × (is_phi φ ≡ false))
  pub empty : quantiled st list φ ≡ Err Empty
      ↔ ((slots_ok (length list) ≡ true) × (sound st list ≡ true) × (is_phi φ ≡ true) × (st.n ≡ 0))
  pub value : ((v : ℕ) × (quantiled st list φ ≡ Ok v))
      ↔ ((slots_ok (length list) ≡ true) × (sound st list ≡ true) × (is_phi φ ≡ true) × (0 < st.n))
