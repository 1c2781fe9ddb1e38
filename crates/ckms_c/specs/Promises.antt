-- All that is promised of the definitions of a CKMS's C functions, in one record: the contract of `promises` states it, so each field has to be proved.
-- Assumes nothing: these are statements.
use Rattle.ckms_c.specs.Laws.{CkmsOpensOneWay, CkmsInsertsOneWay}

pub record Promises : Type 0 where
  pub ckms_opens_one_way : CkmsOpensOneWay
  pub ckms_inserts_one_way : CkmsInsertsOneWay
