-- `ckms_c::promises` meets its contract: each statement is a theorem of this folder.
-- Assumes nothing.
use Rattle.ckms_c.proofs.Outcomes.{ckms_opens, ckms_inserts}
use Rattle.ckms_c.proofs.promises.Goals as goal

pub returns : goal.returns
returns c = record {
  ckms_opens_one_way = ckms_opens;
  ckms_inserts_one_way = ckms_inserts;
}
