-- What holds after a whole scan by `floor`: a stream is opened, every observation inserted, a refused one skipped, and the φ-quantile asked.
-- Assumes nothing: these are definitions.
use Rattle.std.specs.Prelude.{◌≡◌, ℕ, List, Result, Ok, Err}
use Rattle.refusal.specs.declared.Refusal.{Refusal}
use Rattle.fraction.specs.declared.Fraction.{Fraction}
use Rattle.entries.specs.declared.Entry.{Entry}
use Rattle.greenwald_khanna_steps.specs.declared.Stream.{Stream}
use Rattle.greenwald_khanna_steps.specs.Opening.{opened, opened_list}
use Rattle.noise_floor.specs.Demand3.{given, run, accepted, Bounded, asked}

-- what an opened stream and its list become when all xs are inserted; `list` is the list that opening left
abbrev pub scanned_by : Result Stream Refusal → List Entry → List ℕ → List Entry
scanned_by (Ok st) list xs = (run (given st list) xs).list
scanned_by (Err why) list xs = list

-- the answer: the opening's refusal, or the quantile of what the inserts left
abbrev pub floor_by : Result Stream Refusal → List Entry → List ℕ → Fraction → Result ℕ Refusal
floor_by (Ok st) list xs φ = asked (run (given st list) xs) φ
floor_by (Err why) list xs φ = Err why

-- the answer, the list, and demand 3 about this answer
pub record FloorPost (ε : Fraction) (before : List Entry) (xs : List ℕ) (φ : Fraction) (answer : Result ℕ Refusal) (list : List Entry) : Type 0 where
  pub answered : answer ≡ floor_by (opened ε before) (opened_list ε before) xs φ
  pub left : list ≡ scanned_by (opened ε before) (opened_list ε before) xs
  pub bound : (st : Stream) → opened ε before ≡ Ok st → Bounded ε φ (accepted (given st (opened_list ε before)) xs) answer
