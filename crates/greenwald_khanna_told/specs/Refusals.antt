-- When each refusal is given to a call that tells a number: exactly in the case that the table lists for it, no earlier test having refused.
-- Assumes nothing: these are definitions.
use Rattle.std.specs.Prelude.{◌≡◌, true, false, ◌↔◌, ℕ, Ok, Err, List, length}
use Rattle.refusal.specs.declared.Refusal.TheVariants.{Slots, Damaged}
use Rattle.entries.specs.declared.Entry.{Entry}
use Rattle.greenwald_khanna_steps.specs.declared.Stream.{Stream}
use Rattle.greenwald_khanna_steps.specs.Limits.{slots_ok}
use Rattle.greenwald_khanna_steps.specs.Sound.{sound}
use Rattle.greenwald_khanna_told.specs.Answers.{told}

pub record ToldExactly (st : Stream) (list : List Entry) (x : ℕ) : Type 0 where
  pub slots : told st list x ≡ Err Slots ↔ slots_ok (length list) ≡ false
  pub damaged : told st list x ≡ Err Damaged ↔ ((slots_ok (length list) ≡ true) × (sound st list ≡ false))
  pub value : told st list x ≡ Ok x ↔ ((slots_ok (length list) ≡ true) × (sound st list ≡ true))
