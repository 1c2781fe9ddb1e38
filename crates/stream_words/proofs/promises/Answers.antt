-- `stream_words::promises` meets its contract: each statement is a theorem of this folder.
-- Assumes nothing.
use Rattle.stream_words.proofs.Backs.{stream_back}
use Rattle.stream_words.proofs.promises.Goals as goal

pub returns : goal.returns
returns c = record {
  stream_back = stream_back;
}
