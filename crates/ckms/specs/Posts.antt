-- What holds after each call but opening: its answer and both lent lists as functions of the input; and an accepted call leaves a sound state.
-- Assumes nothing: these are definitions.
use Rattle.std.specs.Prelude.{◌≡◌, ℕ, true, List, Result, Ok}
use Rattle.refusal.specs.declared.Refusal.{Refusal}
use Rattle.entries.specs.declared.Entry.{Entry}
use Rattle.ckms_steps.specs.declared.CKMS.{CKMS}
use Rattle.ckms_steps.specs.State.{cma_in_range, sound}
use Rattle.ckms_steps.specs.Steps.{new_list, new_lens}
use Rattle.ckms.specs.Answers.{inserted, left_by}

pub record InsertPost (c : CKMS) (list : List Entry) (lens : List ℕ) (x : ℕ) (answer : Result CKMS Refusal) (list' : List Entry) (lens' : List ℕ) : Type 0 where
  pub answered : answer ≡ inserted c list lens x
  pub entries : list' ≡ left_by (inserted c list lens x) (new_list c list lens x) list
  pub blocks : lens' ≡ left_by (inserted c list lens x) (new_lens c list lens x) lens
  pub kept : (next : CKMS) → answer ≡ Ok next → sound next list' lens' ≡ true
  -- so from opening on the mean lies in the range of the observations
  pub ranged : (next : CKMS) → answer ≡ Ok next → cma_in_range c.cma ≡ true → cma_in_range next.cma ≡ true
