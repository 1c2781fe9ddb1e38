-- All that is promised of the store's words, in one record: the contract of `promises` states it, so each field has to be proved.
-- Assumes nothing: these are statements.
use Rattle.store_words.specs.Laws.{StoreBack}

pub record Promises : Type 0 where
  pub store_back : StoreBack
