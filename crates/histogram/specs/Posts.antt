-- What an insert promises: the answer, each lent count afterwards, and that the state which is handed out is sound.
-- Assumes nothing: these are definitions.
use Rattle.std.specs.Prelude.{◌≡◌, ℕ, List, Result, Ok, Err}
use Rattle.refusal.specs.declared.Refusal.{Refusal}
use Rattle.histogram_rows.specs.Bins.{counted}
use Rattle.histogram_steps.specs.declared.Histogram.{Histogram}
use Rattle.histogram_steps.specs.Sound.{Sound}
use Rattle.histogram_steps.specs.Standing.{left}
use Rattle.histogram.specs.Answers.{insert_standing, insert_answer}

-- an insert that is taken leaves a sound histogram
abbrev pub LeavesSound : Result Histogram Refusal → List ℕ → List ℕ → Type 0
LeavesSound (Ok h) bs cs = Sound h bs cs
LeavesSound (Err why) bs cs = Unit {0}

-- of `insert` of v
pub record InsertPost (h : Histogram) (bs cs : List ℕ) (v : ℕ) (r : Result Histogram Refusal) (cs' : List ℕ) : Type 0 where
  pub answer : r ≡ insert_answer (insert_standing h bs cs) h v
  pub counts : cs' ≡ left (insert_standing h bs cs) (counted bs cs v) cs
  pub sound : LeavesSound r bs cs'
