-- `ckms_words::promises` meets its contract: each statement is a theorem of this folder.
-- Assumes nothing.
use Rattle.ckms_words.proofs.Misfits.{ckms_misfits}
use Rattle.ckms_words.proofs.Backs.{ckms_back}
use Rattle.ckms_words.proofs.promises.Goals as goal

pub returns : goal.returns
returns c = record {
  ckms_misfits = ckms_misfits;
  ckms_back = ckms_back;
}
