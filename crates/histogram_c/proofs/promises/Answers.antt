-- `histogram_c::promises` meets its contract: each statement is a theorem of this folder.
-- Assumes nothing.
use Rattle.histogram_c.proofs.Outcomes.{histogram_opens, histogram_inserts, bins_agree}
use Rattle.histogram_c.proofs.promises.Goals as goal

pub returns : goal.returns
returns c = record {
  histogram_opens_one_way = histogram_opens;
  histogram_inserts_one_way = histogram_inserts;
  bins_one_way = bins_agree;
}
