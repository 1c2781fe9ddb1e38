-- What insert, bins and bins_refusal answer, by cases, in the order of the refusal table.
-- Assumes nothing: these are definitions.
use Rattle.std.specs.Prelude.{ℕ, cond, List, [], ltb, ⊤, Result, Ok, Err}
use Rattle.refusal.specs.declared.Refusal.{Refusal}
use Rattle.refusal.specs.declared.Refusal.TheVariants.{Count}
use Rattle.refusal.specs.Number.{number_of}
use Rattle.histogram_rows.specs.declared.Bound.{Bound}
use Rattle.histogram_rows.specs.Bins.{bins_between}
use Rattle.histogram_steps.specs.declared.Histogram.{Histogram}
use Rattle.histogram_steps.specs.State.{observations, taken}
use Rattle.histogram_steps.specs.Standing.{standing, left}

-- a refusal stands; else what comes next decides
abbrev pub and_then : Result ⊤ Refusal → Result ⊤ Refusal → Result ⊤ Refusal
and_then (Ok x) next = next
and_then (Err why) next = Err why

-- an insert: SLOTS, DAMAGED, then COUNT
abbrev pub insert_standing : Histogram → List ℕ → List ℕ → Result ⊤ Refusal
insert_standing h bs cs = and_then (standing h bs cs) (cond (ltb h.count observations) (Ok tt) (Err Count))

-- `insert` of v
abbrev pub insert_answer : Result ⊤ Refusal → Histogram → ℕ → Result Histogram Refusal
insert_answer (Ok x) h v = Ok (taken h v)
insert_answer (Err why) h v = Err why

-- `bins`: an empty part where the call is refused
abbrev pub bins_answer : Histogram → List ℕ → List ℕ → Bound → Bound → List ℕ
bins_answer h bs cs l u = left (standing h bs cs) (bins_between bs cs l u) []

-- a refusal's number, or 0
abbrev pub number : Result ⊤ Refusal → ℕ
number (Ok x) = 0
number (Err why) = number_of why

-- `bins_refusal`
abbrev pub bins_number : Histogram → List ℕ → List ℕ → ℕ
bins_number h bs cs = number (standing h bs cs)
