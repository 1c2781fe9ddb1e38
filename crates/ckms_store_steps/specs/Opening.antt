-- Opening: what it answers, the lent lists that it leaves, and what holds afterwards.
-- Assumes nothing: these are definitions.
use Rattle.std.specs.Prelude.{◌≡◌, ℕ, true, cond, not, List, length, replicate, Result, Ok, Err}
use Rattle.refusal.specs.declared.Refusal.{Refusal}
use Rattle.refusal.specs.declared.Refusal.TheVariants.{Slots, Epsilon, Block}
use Rattle.fraction.specs.declared.Fraction.{Fraction}
use Rattle.fraction.specs.Allowed.{is_error}
use Rattle.entries.specs.declared.Entry.{Entry}
use Rattle.entries.specs.Entry.{zero_entry}
use Rattle.ckms_store_steps.specs.declared.Store.{Store}
use Rattle.ckms_store_steps.specs.Limits.{slots_ok, size_ok}
use Rattle.ckms_store_steps.specs.Sound.{sound}

-- opening: SLOTS, EPSILON, BLOCK; else a store that holds nothing
abbrev pub fresh : Fraction → ℕ → Store
fresh error block = record { error = error; n = 0; held = 0; block = block; blocks = 0 }

unfoldable pub opened : Fraction → ℕ → List Entry → List ℕ → Result Store Refusal
opened error block list lens =
    cond (not (slots_ok (length list) (length lens))) (Err Slots)
    (cond (not (is_error error)) (Err Epsilon)
    (cond (not (size_ok block)) (Err Block)
    (Ok (fresh error block))))

-- a lent list afterwards: all zero, or as it was where opening is refused
abbrev pub zeroed_by : {A : Type 0} → Result Store Refusal → A → List A → List A
zeroed_by (Ok s) zero list = replicate (length list) zero
zeroed_by (Err why) zero list = list

pub record OpenPost (error : Fraction) (block : ℕ) (list : List Entry) (lens : List ℕ) (answer : Result Store Refusal) (list' : List Entry) (lens' : List ℕ) : Type 0 where
  pub answered : answer ≡ opened error block list lens
  pub entries : list' ≡ zeroed_by (opened error block list lens) zero_entry list
  pub blocks : lens' ≡ zeroed_by (opened error block list lens) 0 lens
  pub fresh : (s : Store) → answer ≡ Ok s → sound s list' lens' ≡ true
