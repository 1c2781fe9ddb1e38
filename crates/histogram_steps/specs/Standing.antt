-- Whether a call can be answered, in the order of the refusal table.
-- Assumes nothing: these are definitions.
use Rattle.std.specs.Prelude.{ℕ, suc, Bool, cond, List, eqb, length, ⊤, Result, Ok, Err}
use Rattle.refusal.specs.declared.Refusal.{Refusal}
use Rattle.refusal.specs.declared.Refusal.TheVariants.{Slots, Damaged}
use Rattle.histogram_steps.specs.declared.Histogram.{Histogram}
use Rattle.histogram_steps.specs.Sound.{sound}

-- a count for each bound, and one more for +Inf
abbrev pub fits : List ℕ → List ℕ → Bool
fits bs cs = eqb (length cs) (suc (length bs))

-- every call: SLOTS, DAMAGED
abbrev pub standing : Histogram → List ℕ → List ℕ → Result ⊤ Refusal
standing h bs cs = cond (fits bs cs) (cond (sound h bs cs) (Ok tt) (Err Damaged)) (Err Slots)

-- what stands afterwards: as it was before where the call is refused
abbrev pub left : {A : Type 0} → Result ⊤ Refusal → A → A → A
left (Ok x) after before = after
left (Err why) after before = before
