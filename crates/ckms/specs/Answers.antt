-- What an insert and a query answer, and the lent lists that an insert leaves, on every input. The tests stand in the order of the refusals.
-- Assumes nothing: these are definitions.
use Rattle.std.specs.Prelude.{ℕ, cond, List, leb, length, Result, Ok, Err}
use Rattle.refusal.specs.declared.Refusal.{Refusal}
use Rattle.refusal.specs.declared.Refusal.TheVariants.{Count, Full}
use Rattle.fraction.specs.declared.Fraction.{Fraction}
use Rattle.entries.specs.declared.Entry.{Entry}
use Rattle.ckms_theory.specs.declared.Ranked.{Ranked}
use Rattle.ckms_store_steps.specs.Limits.{observations}
use Rattle.ckms_store.specs.Answers as store
use Rattle.ckms_steps.specs.declared.CKMS.{CKMS}
use Rattle.ckms_steps.specs.State.{samples}
use Rattle.ckms_steps.specs.Steps.{tested, taken_in, state_of}

-- inserting: SLOTS, DAMAGED, COUNT, FULL; else the CKMS with the observation
unfoldable pub inserted : CKMS → List Entry → List ℕ → ℕ → Result CKMS Refusal
inserted c list lens x =
    tested c list lens
    (cond (leb observations c.n) (Err Count)
    (cond (leb (length list) c.held) (Err Full)
    (Ok (state_of c (taken_in c list lens x) x))))

-- a lent list afterwards: the new one (`new_list`, `new_lens`), or as it was where the insert is refused
abbrev pub left_by : {A : Type 0} → Result CKMS Refusal → List A → List A → List A
left_by (Ok c) new old = new
left_by (Err why) new old = old

-- a query: SLOTS, DAMAGED; else the store's answer
unfoldable pub queried : CKMS → List Entry → List ℕ → Fraction → Result Ranked Refusal
queried c list lens q = tested c list lens (store.queried (samples c) list lens q)
