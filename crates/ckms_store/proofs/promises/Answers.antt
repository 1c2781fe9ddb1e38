-- `ckms_store::promises` meets its contract: each promise is a theorem.
-- Assumes nothing.
use Rattle.ckms_store.proofs.Accepted.{sound_exactly, insert_sound, compress_sound}
use Rattle.ckms_store.proofs.Abacus.{computed}
use Rattle.ckms_store.proofs.Ends.{ends_by_value}
use Rattle.ckms_store.proofs.Exactly.{open_exactly, check_exactly, insert_exactly, query_exactly}
use Rattle.ckms_store.proofs.Outcomes.{one_opening, one_insert, one_compression}
use Rattle.ckms_store.proofs.promises.Goals as goal

pub returns : goal.returns
returns c = record {
  sound_exactly = sound_exactly;
  insert_sound = insert_sound;
  compress_sound = compress_sound;
  ends_by_value = ends_by_value;
  open_exactly = open_exactly;
  check_exactly = check_exactly;
  insert_exactly = insert_exactly;
  query_exactly = query_exactly;
  one_opening = one_opening;
  one_insert = one_insert;
  one_compression = one_compression;
  readings = computed;
}
