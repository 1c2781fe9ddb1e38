-- What the definitions give on small summaries: numbers that a reader can check by hand, each beside a slip that it tells apart.
-- Assumes nothing: these are definitions.
use Rattle.std.specs.Prelude.{◌≡◌, true, false, List, [], ◌∷◌}
use Rattle.std.proofs.Math.Option.{some}
use Rattle.fraction.specs.declared.Fraction.{Fraction}
use Rattle.entries.specs.declared.Entry.{Entry}
use Rattle.entries.specs.Entry.{entry}
use Rattle.greenwald_khanna_theory.specs.Sound.{sound_entries}
use Rattle.greenwald_khanna_theory.specs.State.{fresh, insert}
use Rattle.greenwald_khanna_theory.specs.Summary.{put_in, compress}
use Rattle.greenwald_khanna_theory.specs.Walk.{look_up}

-- ε 1/4: the period is 2
abbrev pub quarter : Fraction
quarter = record { num = 1; den = 4 }

-- 10 20 30, each observed once
abbrev pub three : List Entry
three = entry 10 1 0 ∷ entry 20 1 0 ∷ entry 30 1 0 ∷ []

pub record Readings : Type 0 where
  -- an observation goes in, off the schedule of compressions too
  pub first_in : insert quarter fresh 30 ≡ record { n = 1; entries = entry 30 1 0 ∷ [] }
  -- and so does the one after it
  pub second_in : insert quarter (insert quarter fresh 30) 10 ≡ record { n = 2; entries = entry 10 1 0 ∷ entry 30 1 0 ∷ [] }
  -- between two entries delta is p, and not 1 less
  pub middle_in : put_in 1 20 (entry 10 1 0 ∷ entry 30 1 0 ∷ []) ≡ entry 10 1 0 ∷ entry 20 1 1 ∷ entry 30 1 0 ∷ []
  -- 1 + 1 + 0 is below 4: 20 goes into 30 with its g; 10 is the first and 30 the last, and both stay
  pub deleted : compress 4 three ≡ entry 10 1 0 ∷ entry 30 2 0 ∷ []
  -- 1 + 1 + 0 is not below 2: nothing is deleted at p
  pub kept_at_p : compress 2 three ≡ three
  -- 1 + 1 + 0 does not pass the limit 2, and 2 + 1 + 0 does: the answer is the entry before
  pub at_the_limit : look_up 2 three ≡ some 20
  -- g + delta is at most p + 1, and need not be within p: one observation has p = 0
  pub one_is_sound : sound_entries 0 1 (entry 7 1 0 ∷ []) ≡ true
  pub two_at_once : sound_entries 0 3 (entry 7 1 0 ∷ entry 8 2 0 ∷ []) ≡ false
