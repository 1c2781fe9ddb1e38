-- What the tests that every call makes first say of an insert and of a query. Assumes nothing.
use mathlib.Core.Path.{◌≡◌, refl, sym}
use Prim.Native.Nat.{ℕ}
use mathlib.Core.Bool.{Bool, true, false, ◌&&◌}
use mathlib.Core.List.{List}
use lib.ListN.{length}
use Rattle.std.specs.Prelude.{Result, Ok, Err}
use Rattle.refusal.specs.declared.Refusal.{Refusal}
use Rattle.refusal.specs.declared.Refusal.TheVariants.{Damaged}
use Rattle.entries.specs.declared.Entry.{Entry}
use Rattle.ckms_store_steps.specs.Limits.{slots_ok}
use Rattle.ckms_store_steps.proofs.Tested.{two, answer_of, check_passed}
use Rattle.ckms_steps.specs.declared.CKMS.{CKMS}
use Rattle.ckms_steps.specs.State.{sound}
use Rattle.ckms_steps.specs.Steps.{checked, Ready}

-- the store's tests, made once more behind those of a CKMS whose other parts are sound; and those of one whose other parts are not
pub by_store : {A : Type 0} (x : Result A Refusal) (a b r : Bool) → r ≡ true → two a (b && r) (two a b x) ≡ two a b x
by_store x true true r e = rw e
by_store x true false r e = refl
by_store x false b r e = refl

pub by_unsound : {A : Type 0} (x : Result A Refusal) (a b r : Bool) → r ≡ false → two a (b && r) x ≡ answer_of (Err Damaged) (two a b (Ok tt))
by_unsound x true true r e = rw e
by_unsound x true false r e = refl
by_unsound x false b r e = refl

module _ (c : CKMS) (list : List Entry) (lens : List ℕ) where
  -- a passed check is what a call's work asks
  pub ready : Ok tt ≡ checked c list lens → Ready c list lens
  unfolding checked
  ready e = let p = check_passed (slots_ok (length list) (length lens)) (sound c list lens) (sym e) in record { allowed = p.0; sound = p.1 }
