-- Words that fit no CKMS are refused as DAMAGED, after SLOTS: the state that they make is never sound.
-- Assumes nothing.
use mathlib.Core.Path.{◌≡◌, refl, ap, ◌∙◌}
use mathlib.Core.Bool.{Bool, true, false, not, cond}
use lib.ListN.{length}
use Rattle.refusal.specs.declared.Refusal.TheVariants.{Slots, Damaged}
use Rattle.refusal.specs.declared.Refusal.{Refusal}
use Rattle.std.specs.Prelude.{Err, Result}
use Rattle.ckms_store_steps.specs.Limits.{slots_ok}
use Rattle.ckms_store_steps.specs.Sound as store
use Rattle.ckms_steps.specs.declared.CKMS.{CKMS}
use Rattle.ckms_steps.specs.Steps.{checked}
use Rattle.ckms_words.specs.Laws.{CkmsMisfits}
use Rattle.ckms_words.proofs.Fitting.{ckms_misfitted}

turned : (b : Bool) → ◌≡◌ {A = Result (Unit {0}) Refusal} (cond (not b) (Err Slots) (Err Damaged)) (cond b (Err Damaged) (Err Slots))
turned true = refl
turned false = refl

-- 0/0 is no error
pub ckms_misfits : CkmsMisfits
unfolding CkmsMisfits checked store.sound
ckms_misfits w list lens t = ap (λ (c : CKMS). checked c list lens) (ckms_misfitted w t) ∙ turned (slots_ok (length list) (length lens))
