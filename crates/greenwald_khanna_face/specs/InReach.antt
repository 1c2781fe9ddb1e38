-- No call needs a slot out of reach: two statements about the definitions, which the face promises.
-- Assumes nothing: these are definitions.
use Rattle.std.specs.Prelude.{◌≡◌, ℕ, ◌≤◌, List, ◌++◌, length, take, drop}
use Rattle.entries.specs.declared.Entry.{Entry}
use Rattle.greenwald_khanna_steps.specs.declared.Stream.{Stream}
use Rattle.greenwald_khanna_steps.specs.Limits.{slots}
use Rattle.greenwald_khanna.specs.Answers.{inserted, inserted_list}
use Rattle.greenwald_khanna_face.specs.Questions.{Question, answer_to}
use Rattle.greenwald_khanna_face.specs.Reach.{reach}

-- an insert neither needs nor changes a slot out of reach
unfoldable pub InsertInReach : Type 0
InsertInReach =
    (st : Stream) (list : List Entry) (x : ℕ) → length list ≤ slots
    → (inserted st (take (reach st.held (length list)) list) x ≡ inserted st list x)
    × (inserted_list st (take (reach st.held (length list)) list) x ++ drop (reach st.held (length list)) list ≡ inserted_list st list x)

-- no question needs one
unfoldable pub AskInReach : Type 0
AskInReach =
    (q : Question) (st : Stream) (list : List Entry) → length list ≤ slots
    → answer_to q st (take (reach st.held (length list)) list) ≡ answer_to q st list
