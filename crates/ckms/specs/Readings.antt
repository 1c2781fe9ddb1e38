-- Readings 10 and 12 of the rules, from opening on, by the definitions of the calls.
-- Assumes nothing: these are definitions.
use Rattle.std.specs.Prelude.{◌≡◌, ℕ, false, List, [], ◌∷◌, pos, replicate, Some, Result, Ok, Err}
use Rattle.std.specs.Float.{fin, inf}
use Rattle.refusal.specs.declared.Refusal.{Refusal}
use Rattle.fraction.specs.declared.Fraction.{Fraction}
use Rattle.entries.specs.declared.Entry.{Entry}
use Rattle.entries.specs.Entry.{entry, zero_entry}
use Rattle.ckms_theory.specs.Walk.{ranked}
use Rattle.ckms_steps.specs.declared.CKMS.{CKMS}
use Rattle.ckms_steps.specs.State.{cma_sound}
use Rattle.ckms_steps.specs.Steps.{new_list, new_lens}
use Rattle.ckms_steps.specs.Opening.{fresh}
use Rattle.ckms_told.specs.Answers.{cma_of}
use Rattle.ckms.specs.Answers.{inserted, left_by, queried}

-- num / den
abbrev pub over : ℕ → ℕ → Fraction
over num den = record { num = num; den = den }

-- a CKMS and its lent lists
pub record Lent : Type 0 where
  pub state : CKMS
  pub list : List Entry
  pub lens : List ℕ

-- just opened, over so many places
abbrev pub start : Fraction → ℕ → Lent
start error slots = record { state = fresh error; list = replicate slots zero_entry; lens = replicate slots 0 }

-- the state that an insert answers, or the one before where it is refused
abbrev pub state_by : Result CKMS Refusal → CKMS → CKMS
state_by (Ok next) c = next
state_by (Err why) c = c

-- each of xs offered, one after another
unfoldable pub run : Lent → List ℕ → Lent
run t [] = t
run t (x ∷ xs) =
    let answer : Result CKMS Refusal = inserted t.state t.list t.lens x in
    run record {
      state = state_by answer t.state;
      list = left_by answer (new_list t.state t.list t.lens x) t.list;
      lens = left_by answer (new_lens t.state t.list t.lens x) t.lens;
    } xs

-- a CKMS of error 1/2 over 4 places, offered 1 2 3
abbrev pub three : Lent
three = run (start (over 1 2) 4) (1 ∷ 2 ∷ 3 ∷ [])

-- one offered 0 100
abbrev pub two : Lent
two = run (start (over 1 2) 4) (0 ∷ 100 ∷ [])

pub record CkmsReadings : Type 0 where
  -- 10: error 1/2, 1 2 3: entries (1,1,0) (3,2,0), in one block; the places freed are zero
  pub entries_10 : three.list ≡ entry 1 1 0 ∷ entry 3 2 0 ∷ zero_entry ∷ zero_entry ∷ []
  pub blocks_10 : three.lens ≡ 2 ∷ 0 ∷ 0 ∷ 0 ∷ []
  -- there q = 1 gives (2, 3)
  pub query_10 : queried three.state three.list three.lens (over 1 1) ≡ Ok (ranked 2 3)
  -- 12: the running mean of 0, 100 is 50, which is 25 · 2 ^ 1
  pub mean_12 : cma_of two.state two.list two.lens ≡ Ok (Some record { value = fin false 25 (pos 1) })
  -- a mean that is not finite is not sound
  pub infinite_mean : cma_sound 1 (Some record { value = inf false }) ≡ false
