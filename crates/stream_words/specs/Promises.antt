-- All that is promised of the stream's words, in one record: the contract of `promises` states it, so each field has to be proved.
-- Assumes nothing: these are statements.
use Rattle.stream_words.specs.Laws.{StreamBack}

pub record Promises : Type 0 where
  pub stream_back : StreamBack
