-- The statements that are promised of the stream's C functions beside each call's own contract; their proofs are in proofs/.
-- Assumes nothing: these are statements.
use Rattle.std.specs.Prelude.{◌≡◌, ℕ, List}
use Rattle.entries.specs.declared.Entry.{Entry}
use Rattle.words.specs.declared.Number.{Number}
use Rattle.words.specs.declared.Ratio.{Ratio}
use Rattle.stream_words.specs.declared.StreamWords.{StreamWords}
use Rattle.stream_words.specs.declared.StreamAnswer.{StreamAnswer}
use Rattle.stream_c.specs.Posts.{StreamOpenPost, StreamInsertPost, StreamQuantilePost}

-- any two outcomes of a call coincide: this is said of the calls whose contract is a record; every other one is an equation for its answer
unfoldable pub StreamOpensOneWay : Type 0
StreamOpensOneWay =
    (ε : Ratio) (list : List Entry) (r s : StreamAnswer) (list' list'' : List Entry)
    → StreamOpenPost ε list r list' → StreamOpenPost ε list s list'' → (r ≡ s) × (list' ≡ list'')

unfoldable pub StreamInsertsOneWay : Type 0
StreamInsertsOneWay =
    (w : StreamWords) (list : List Entry) (v : ℕ) (r s : StreamAnswer) (list' list'' : List Entry)
    → StreamInsertPost w list v r list' → StreamInsertPost w list v s list'' → (r ≡ s) × (list' ≡ list'')

unfoldable pub StreamAnswersOneWay : Type 0
StreamAnswersOneWay =
    (w : StreamWords) (list : List Entry) (φ : Ratio) (r s : Number) → StreamQuantilePost w list φ r → StreamQuantilePost w list φ s → r ≡ s
