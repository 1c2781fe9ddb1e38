-- What the check of a CKMS answers: the store's check, and then that of the rest. Assumes nothing.
use mathlib.Core.Path.{◌≡◌, refl, sym}
use Prim.Native.Nat.{ℕ}
use mathlib.Core.Bool.{Bool, true, false, cond, ◌&&◌}
use mathlib.Core.List.{List}
use lib.ListN.{length}
use Rattle.std.specs.Prelude.{Result, Ok, Err}
use Rattle.refusal.specs.declared.Refusal.{Refusal}
use Rattle.refusal.specs.declared.Refusal.TheVariants.{Damaged}
use Rattle.entries.specs.declared.Entry.{Entry}
use Rattle.ckms_store_steps.specs.declared.Store.{Store}
use Rattle.ckms_store_steps.specs.Limits.{slots_ok}
use Rattle.ckms_store_steps.specs.Sound as sounding
use Rattle.ckms_store_steps.specs.Answers as answering
use Rattle.ckms_store_steps.proofs.Tested.{two, answer_of}
use Rattle.ckms_steps.specs.declared.CKMS.{CKMS}
use Rattle.ckms_steps.specs.State.{samples, record_sound}
use Rattle.ckms_steps.specs.Steps.{checked}

-- the store's check, and then that of the rest
by_two : (a b r : Bool) → two {A = Unit {0}} a (b && r) (Ok tt) ≡ answer_of (cond r (Ok tt) (Err Damaged)) (two a b (Ok tt))
by_two true true true = refl
by_two true true false = refl
by_two true false r = refl
by_two false b r = refl

module _ (c : CKMS) (list : List Entry) (lens : List ℕ) where
  -- the check itself
  pub checked_by : (s : Store) (l : Result (Unit {0}) Refusal) (r : Bool) → s ≡ samples c → l ≡ answering.checked s list lens → r ≡ record_sound c
      → answer_of (cond r (Ok tt) (Err Damaged)) l ≡ checked c list lens
  unfolding checked answering.checked
  checked_by s l r i e h =
      rw (h, e, i) (sym (by_two (slots_ok (length list) (length lens)) (sounding.sound (samples c) list lens) (record_sound c)))
