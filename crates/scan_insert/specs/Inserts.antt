-- What inserting a scan's observations comes to: they go in one after another, up to the first refusal.
-- Assumes nothing: these are definitions.
use Rattle.std.specs.Prelude.{◌≡◌, ℕ, List, [], ◌∷◌, Option, Some, None, Result, Ok, Err}
use Rattle.refusal.specs.declared.Refusal.{Refusal}
use Rattle.refusal.specs.Number.{number_of}
use Rattle.entries.specs.declared.Entry.{Entry}
use Rattle.greenwald_khanna_steps.specs.declared.Stream.{Stream}
use Rattle.greenwald_khanna.specs.Answers.{inserted, inserted_list}
use Rattle.scan_insert.specs.declared.Ran.{Ran}

-- the stream and the number of the refusal that ended it, if one did; and the lent list then
pub record End : Type 0 where
  pub ran : Ran
  pub list : List Entry

abbrev pub end_of : Ran → List Entry → End
end_of ran list = record { ran = ran; list = list }

abbrev pub ended : Stream → Option ℕ → List Entry → End
ended st refused list = end_of (record { stream = st; refused = refused }) list

-- what follows an insert: the rest, or the end where it was refused
abbrev pub onward : Result Stream Refusal → Stream → List Entry → (Stream → End) → End
onward (Ok next) st list rest = rest next
onward (Err why) st list rest = ended st (Some (number_of why)) list

unfoldable pub insert_all : Stream → List Entry → List ℕ → End
insert_all st list [] = ended st None list
insert_all st list (x ∷ xs) = onward (inserted st list x) st (inserted_list st list x) (λ next. insert_all next (inserted_list st list x) xs)

-- the answer and the list are those of an end
pub record RanPost (end : End) (answer : Ran) (list : List Entry) : Type 0 where
  pub answered : answer ≡ end.ran
  pub left : list ≡ end.list
