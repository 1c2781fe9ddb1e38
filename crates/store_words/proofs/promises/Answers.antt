-- `store_words::promises` meets its contract: each statement is a theorem of this folder.
-- Assumes nothing.
use Rattle.store_words.proofs.Backs.{store_back}
use Rattle.store_words.proofs.promises.Goals as goal

pub returns : goal.returns
returns c = record {
  store_back = store_back;
}
