-- Opening: what it answers, the lent lists that it leaves, and what holds afterwards.
-- Assumes nothing: these are definitions.
use Rattle.std.specs.Prelude.{◌≡◌, ℕ, true, cond, not, List, length, replicate, None, Result, Ok, Err}
use Rattle.refusal.specs.declared.Refusal.{Refusal}
use Rattle.refusal.specs.declared.Refusal.TheVariants.{Slots, Epsilon}
use Rattle.fraction.specs.declared.Fraction.{Fraction}
use Rattle.fraction.specs.Allowed.{is_error}
use Rattle.entries.specs.declared.Entry.{Entry}
use Rattle.entries.specs.Entry.{zero_entry}
use Rattle.ckms_store_steps.specs.Limits.{slots_ok}
use Rattle.ckms_steps.specs.declared.CKMS.{CKMS}
use Rattle.ckms_steps.specs.State.{sound}

-- opening: SLOTS, EPSILON; else a CKMS that holds nothing
abbrev pub fresh : Fraction → CKMS
fresh error = record { error = error; n = 0; held = 0; blocks = 0; inserts = 0; last_in = None; cma = None }

unfoldable pub opened : Fraction → List Entry → List ℕ → Result CKMS Refusal
opened error list lens =
    cond (not (slots_ok (length list) (length lens))) (Err Slots)
    (cond (not (is_error error)) (Err Epsilon)
    (Ok (fresh error)))

-- a lent list afterwards: all zero, or as it was where opening is refused
abbrev pub zeroed_by : {A : Type 0} → Result CKMS Refusal → A → List A → List A
zeroed_by (Ok c) zero list = replicate (length list) zero
zeroed_by (Err why) zero list = list

pub record OpenPost (error : Fraction) (list : List Entry) (lens : List ℕ) (answer : Result CKMS Refusal) (list' : List Entry) (lens' : List ℕ) : Type 0 where
  pub answered : answer ≡ opened error list lens
  pub entries : list' ≡ zeroed_by (opened error list lens) zero_entry list
  pub blocks : lens' ≡ zeroed_by (opened error list lens) 0 lens
  pub fresh : (c : CKMS) → answer ≡ Ok c → sound c list' lens' ≡ true
