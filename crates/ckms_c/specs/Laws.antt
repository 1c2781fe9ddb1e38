-- The statements that are promised of a CKMS's C functions beside each call's own contract; their proofs are in proofs/.
-- Assumes nothing: these are statements.
use Rattle.std.specs.Prelude.{◌≡◌, ℕ, List}
use Rattle.entries.specs.declared.Entry.{Entry}
use Rattle.words.specs.declared.Ratio.{Ratio}
use Rattle.ckms_words.specs.declared.CkmsWords.{CkmsWords}
use Rattle.ckms_answer_words.specs.declared.CkmsAnswer.{CkmsAnswer}
use Rattle.ckms_c.specs.Posts.{CkmsOpenPost, CkmsInsertPost}

-- any two outcomes of a call coincide: this is said of the calls whose contract is a record; every other one is an equation for its answer
unfoldable pub CkmsOpensOneWay : Type 0
CkmsOpensOneWay =
    (f : Ratio) (list : List Entry) (lens : List ℕ) (r s : CkmsAnswer) (list' list'' : List Entry) (lens' lens'' : List ℕ)
    → CkmsOpenPost f list lens r list' lens' → CkmsOpenPost f list lens s list'' lens'' → (r ≡ s) × (list' ≡ list'') × (lens' ≡ lens'')

unfoldable pub CkmsInsertsOneWay : Type 0
CkmsInsertsOneWay =
    (w : CkmsWords) (list : List Entry) (lens : List ℕ) (v : ℕ) (r s : CkmsAnswer) (list' list'' : List Entry) (lens' lens'' : List ℕ)
    → CkmsInsertPost w list lens v r list' lens' → CkmsInsertPost w list lens v s list'' lens'' → (r ≡ s) × (list' ≡ list'') × (lens' ≡ lens'')
