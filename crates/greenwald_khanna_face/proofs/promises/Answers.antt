-- `greenwald_khanna_face::promises` meets its contract: each statement is a theorem.
-- Assumes nothing.
use Rattle.greenwald_khanna_face.proofs.Near.{insert_in_reach, ask_in_reach}
use Rattle.greenwald_khanna_face.proofs.Outcomes.{one_opening, one_insert}
use Rattle.greenwald_khanna_face.proofs.promises.Goals as goal

pub returns : goal.returns
returns c = record { one_opening = one_opening; one_insert = one_insert; insert_in_reach = insert_in_reach; ask_in_reach = ask_in_reach }
