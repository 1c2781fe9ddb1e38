-- The statements that are promised of the store's words beside each conversion's own contract; their proofs are in proofs/.
-- Assumes nothing: these are statements.
use Rattle.std.specs.Prelude.{◌≡◌}
use Rattle.ckms_store_steps.specs.declared.Store.{Store}
use Rattle.store_words.specs.Stores as store

-- the words of a state are read as that state again
unfoldable pub StoreBack : Type 0
StoreBack = (s : Store) → store.store_of (store.words_of s) ≡ s
