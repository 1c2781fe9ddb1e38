-- `ckms_answer_words::promises` meets its contract: each statement is a theorem of this folder.
-- Assumes nothing.
use Rattle.ckms_answer_words.proofs.Backs.{ckms_back}
use Rattle.ckms_answer_words.proofs.promises.Goals as goal

pub returns : goal.returns
returns c = record {
  ckms_back = ckms_back;
}
