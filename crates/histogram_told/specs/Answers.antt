-- What count, sum and the totals answer, by cases: SLOTS, DAMAGED, or what is told.
-- Assumes nothing: these are definitions.
use Rattle.std.specs.Prelude.{ℕ, List, ⊤, Option, Result, Ok, Err}
use Rattle.refusal.specs.declared.Refusal.{Refusal}
use Rattle.histogram_rows.specs.declared.Bound.{Bound}
use Rattle.histogram_rows.specs.Bins.{total_below, total_above, total_between}
use Rattle.histogram_steps.specs.declared.Histogram.{Histogram}
use Rattle.histogram_steps.specs.Standing.{standing}

-- a number, or the refusal
abbrev pub counting : Result ⊤ Refusal → ℕ → Result ℕ Refusal
counting (Ok x) n = Ok n
counting (Err why) n = Err why

-- `count`
abbrev pub count_answer : Histogram → List ℕ → List ℕ → Result ℕ Refusal
count_answer h bs cs = counting (standing h bs cs) h.count

-- `total_below`, `total_above`, `total_between`
abbrev pub below_answer : Histogram → List ℕ → List ℕ → Bound → Result ℕ Refusal
below_answer h bs cs u = counting (standing h bs cs) (total_below bs cs u)

abbrev pub above_answer : Histogram → List ℕ → List ℕ → Bound → Result ℕ Refusal
above_answer h bs cs l = counting (standing h bs cs) (total_above bs cs l)

abbrev pub between_answer : Histogram → List ℕ → List ℕ → Bound → Bound → Result ℕ Refusal
between_answer h bs cs l u = counting (standing h bs cs) (total_between bs cs l u)

-- the sum, or the refusal
abbrev pub summing : Result ⊤ Refusal → Histogram → Result (Option ℕ) Refusal
summing (Ok x) h = Ok h.sum
summing (Err why) h = Err why

-- `sum`
abbrev pub sum_answer : Histogram → List ℕ → List ℕ → Result (Option ℕ) Refusal
sum_answer h bs cs = summing (standing h bs cs) h
