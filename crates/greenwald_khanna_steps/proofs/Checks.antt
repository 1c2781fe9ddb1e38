-- What every call tests first: what passes it, and that what it refuses is refused by every call that makes it.
-- Assumes nothing.
use Rattle.std.specs.Prelude.{Result, Ok, Err}
use mathlib.Core.Path.{◌≡◌, sym, ap}
use mathlib.Core.Bool.{Bool, true, false, cond, not}
use mathlib.Core.List.{List}
use lib.ListN.{length}
use Rattle.refusal.specs.declared.Refusal.{Refusal}
use Rattle.refusal.specs.declared.Refusal.TheVariants.{Slots, Damaged}
use Rattle.entries.specs.declared.Entry.{Entry}
use Rattle.entries.proofs.Guards.{differ, both_passed}
use Rattle.greenwald_khanna_steps.specs.declared.Stream.{Stream}
use Rattle.greenwald_khanna_steps.specs.Limits.{slots_ok}
use Rattle.greenwald_khanna_steps.specs.Sound.{sound, checked}

module _ (st : Stream) (list : List Entry) where
  pub checked_passes : Ok tt ≡ checked st list → (slots_ok (length list) ≡ true) × (sound st list ≡ true)
  unfolding checked
  checked_passes e = let t = both_passed (slots_ok (length list)) (sound st list) (sym e) (λ z. differ (cc)) (λ z. differ (cc)) in (t.0, t.1)

  -- a is what the call answers where it passes
  pub checked_refuses : {A : Type 0} (a : Result A Refusal) (why : Refusal) → Err why ≡ checked st list
      → Err why ≡ cond (not (slots_ok (length list))) (Err Slots) (cond (not (sound st list)) (Err Damaged) a)
  unfolding checked
  checked_refuses {A} a why e = go (slots_ok (length list)) (sound st list) e
    where
      go : (p q : Bool) → (let r : Result (Unit {0}) Refusal = Err why in r ≡ cond (not p) (Err Slots) (cond (not q) (Err Damaged) (Ok tt)))
          → Err why ≡ cond (not p) (Err Slots) (cond (not q) (Err Damaged) a)
      go false q e = let same : why ≡ Slots = cc in ap (λ (w : Refusal). let r : Result A Refusal = Err w in r) same
      go true false e = let same : why ≡ Damaged = cc in ap (λ (w : Refusal). let r : Result A Refusal = Err w in r) same
      go true true e = absurd (differ (cc))
