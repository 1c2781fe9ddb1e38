-- `ckms::promises` meets its contract: each promise is a theorem.
-- Assumes nothing.
use Rattle.ckms.proofs.Abacus.{computed}
use Rattle.ckms.proofs.Exactly.{sound_exactly, open_exactly, check_exactly, insert_exactly, query_exactly}
use Rattle.ckms.proofs.Outcomes.{one_opening, one_insert}
use Rattle.ckms.proofs.promises.Goals as goal

pub returns : goal.returns
returns c = record {
  sound_exactly = sound_exactly;
  open_exactly = open_exactly;
  check_exactly = check_exactly;
  insert_exactly = insert_exactly;
  query_exactly = query_exactly;
  one_opening = one_opening;
  one_insert = one_insert;
  readings = computed;
}
