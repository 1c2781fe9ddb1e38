-- `histogram_words::promises` meets its contract: each statement is a theorem of this folder.
-- Assumes nothing.
use Rattle.histogram_words.proofs.Backs.{histogram_back}
use Rattle.histogram_words.proofs.Misfits.{histogram_misfits}
use Rattle.histogram_words.proofs.promises.Goals as goal

pub returns : goal.returns
returns c = record {
  histogram_misfits = histogram_misfits;
  histogram_back = histogram_back;
}
