-- What the tests that every call makes first say of its answer. Assumes nothing.
use mathlib.Core.Path.{◌≡◌, sym, ap, ◌∙◌}
use Prim.Native.Nat.{ℕ}
use mathlib.Core.List.{List}
use lib.ListN.{length}
use Rattle.std.specs.Prelude.{Result, Err}
use Rattle.refusal.specs.declared.Refusal.{Refusal}
use Rattle.entries.specs.declared.Entry.{Entry}
use Rattle.ckms_store_steps.specs.Limits.{slots_ok}
use Rattle.ckms_store_steps.proofs.Tested.{answer_of, by_check}
use Rattle.ckms_steps.specs.declared.CKMS.{CKMS}
use Rattle.ckms_steps.specs.State.{sound}
use Rattle.ckms_steps.specs.Steps.{tested, checked}

module _ (c : CKMS) (list : List Entry) (lens : List ℕ) where
  -- a call answers by what its check found
  pub answered_by : {A : Type 0} (x : Result A Refusal) (l : Result (Unit {0}) Refusal) → l ≡ checked c list lens → answer_of x l ≡ tested c list lens x
  unfolding checked
  answered_by x l e = ap (answer_of x) e ∙ sym (by_check x (slots_ok (length list) (length lens)) (sound c list lens))

  -- a refusal of the check, passed on by a call, is its answer
  pub refused : {A : Type 0} (x r : Result A Refusal) (why : Refusal) → r ≡ Err why → Err why ≡ checked c list lens → r ≡ tested c list lens x
  refused x r why p e = p ∙ answered_by x (Err why) e
