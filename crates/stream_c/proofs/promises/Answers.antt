-- `stream_c::promises` meets its contract: each statement is a theorem of this folder.
-- Assumes nothing.
use Rattle.stream_c.proofs.Outcomes.{stream_opens, stream_inserts, stream_answers}
use Rattle.stream_c.proofs.promises.Goals as goal

pub returns : goal.returns
returns c = record {
  stream_opens_one_way = stream_opens;
  stream_inserts_one_way = stream_inserts;
  stream_answers_one_way = stream_answers;
}
