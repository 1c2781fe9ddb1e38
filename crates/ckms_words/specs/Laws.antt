-- The statements that are promised of the CKMS's words beside each conversion's own contract; their proofs are in proofs/.
-- Assumes nothing: these are statements.
use Rattle.std.specs.Prelude.{◌≡◌, ℕ, false, cond, List, length, Err}
use Rattle.refusal.specs.declared.Refusal.TheVariants.{Slots, Damaged}
use Rattle.entries.specs.declared.Entry.{Entry}
use Rattle.ckms_store_steps.specs.Limits.{slots_ok}
use Rattle.ckms_steps.specs.declared.CKMS.{CKMS}
use Rattle.ckms_steps.specs.Steps.{checked}
use Rattle.ckms_words.specs.declared.CkmsWords.{CkmsWords}
use Rattle.ckms_words.specs.Ckmses as ckms

-- words that fit no CKMS are refused as DAMAGED, after SLOTS, whatever is lent
unfoldable pub CkmsMisfits : Type 0
CkmsMisfits =
    (w : CkmsWords) (list : List Entry) (lens : List ℕ) → ckms.fits w ≡ false
    → checked (ckms.ckms_of w) list lens ≡ cond (slots_ok (length list) (length lens)) (Err Damaged) (Err Slots)

-- the words of a state are read as that state again
unfoldable pub CkmsBack : Type 0
CkmsBack = (c : CKMS) → ckms.Narrow (ckms.words_of c) → ckms.ckms_of (ckms.words_of c) ≡ c
