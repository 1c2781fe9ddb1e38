-- All that is promised of the definitions of the store's C functions, in one record: the contract of `promises` states it, so each field has to be proved.
-- Assumes nothing: these are statements.
use Rattle.store_c.specs.Laws.{StoreOpensOneWay, StoreInsertsOneWay, StoreCompressesOneWay}

pub record Promises : Type 0 where
  pub store_opens_one_way : StoreOpensOneWay
  pub store_inserts_one_way : StoreInsertsOneWay
  pub store_compresses_one_way : StoreCompressesOneWay
