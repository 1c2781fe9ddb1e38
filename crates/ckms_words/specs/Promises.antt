-- All that is promised of the CKMS's words, in one record: the contract of `promises` states it, so each field has to be proved.
-- Assumes nothing: these are statements.
use Rattle.ckms_words.specs.Laws.{CkmsMisfits, CkmsBack}

pub record Promises : Type 0 where
  pub ckms_misfits : CkmsMisfits
  pub ckms_back : CkmsBack
