-- `store_c::promises` meets its contract: each statement is a theorem of this folder.
-- Assumes nothing.
use Rattle.store_c.proofs.Outcomes.{store_opens, store_inserts, store_compresses}
use Rattle.store_c.proofs.promises.Goals as goal

pub returns : goal.returns
returns c = record {
  store_opens_one_way = store_opens;
  store_inserts_one_way = store_inserts;
  store_compresses_one_way = store_compresses;
}
