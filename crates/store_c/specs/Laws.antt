-- The statements that are promised of the store's C functions beside each call's own contract; their proofs are in proofs/.
-- Assumes nothing: these are statements.
use Rattle.std.specs.Prelude.{◌≡◌, ℕ, List}
use Rattle.entries.specs.declared.Entry.{Entry}
use Rattle.words.specs.declared.Ratio.{Ratio}
use Rattle.store_words.specs.declared.StoreWords.{StoreWords}
use Rattle.store_words.specs.declared.StoreAnswer.{StoreAnswer}
use Rattle.store_c.specs.Posts.{StoreOpenPost, StoreInsertPost, StoreCompressPost}

-- any two outcomes of a call coincide: this is said of the calls whose contract is a record; every other one is an equation for its answer
unfoldable pub StoreOpensOneWay : Type 0
StoreOpensOneWay =
    (f : Ratio) (size : ℕ) (list : List Entry) (lens : List ℕ) (r s : StoreAnswer) (list' list'' : List Entry) (lens' lens'' : List ℕ)
    → StoreOpenPost f size list lens r list' lens' → StoreOpenPost f size list lens s list'' lens'' → (r ≡ s) × (list' ≡ list'') × (lens' ≡ lens'')

unfoldable pub StoreInsertsOneWay : Type 0
StoreInsertsOneWay =
    (w : StoreWords) (list : List Entry) (lens : List ℕ) (v : ℕ) (r s : StoreAnswer) (list' list'' : List Entry) (lens' lens'' : List ℕ)
    → StoreInsertPost w list lens v r list' lens' → StoreInsertPost w list lens v s list'' lens'' → (r ≡ s) × (list' ≡ list'') × (lens' ≡ lens'')

unfoldable pub StoreCompressesOneWay : Type 0
StoreCompressesOneWay =
    (w : StoreWords) (list : List Entry) (lens : List ℕ) (r s : StoreAnswer) (list' list'' : List Entry) (lens' lens'' : List ℕ)
    → StoreCompressPost w list lens r list' lens' → StoreCompressPost w list lens s list'' lens'' → (r ≡ s) × (list' ≡ list'') × (lens' ≡ lens'')
