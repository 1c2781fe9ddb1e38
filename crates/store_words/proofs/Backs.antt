-- The words of a store are read as that store again.
-- Assumes nothing.
use mathlib.Core.Path.{refl}
use Rattle.store_words.specs.Laws.{StoreBack}

pub store_back : StoreBack
unfolding StoreBack
store_back s = refl
