-- All that is promised of the CKMS's written words, in one record: the contract of `promises` states it, so each field has to be proved.
-- Assumes nothing: these are statements.
use Rattle.ckms_answer_words.specs.Laws.{CkmsBack}

pub record Promises : Type 0 where
  pub ckms_back : CkmsBack
