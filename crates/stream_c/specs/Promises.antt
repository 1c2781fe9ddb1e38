-- All that is promised of the definitions of the stream's C functions, in one record: the contract of `promises` states it, so each field has to be proved.
-- Assumes nothing: these are statements.
use Rattle.stream_c.specs.Laws.{StreamOpensOneWay, StreamInsertsOneWay, StreamAnswersOneWay}

pub record Promises : Type 0 where
  pub stream_opens_one_way : StreamOpensOneWay
  pub stream_inserts_one_way : StreamInsertsOneWay
  pub stream_answers_one_way : StreamAnswersOneWay
