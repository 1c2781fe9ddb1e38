-- The statements that are promised of the histogram's C functions beside each call's own contract; their proofs are in proofs/.
-- Assumes nothing: these are statements.
use Rattle.std.specs.Prelude.{◌≡◌, ℕ, List}
use Rattle.histogram_rows.specs.declared.Bound.{Bound}
use Rattle.histogram_steps.specs.declared.Histogram.{Histogram}
use Rattle.histogram_words.specs.declared.HistogramWords.{HistogramWords}
use Rattle.histogram_words.specs.declared.HistogramAnswer.{HistogramAnswer}
use Rattle.histogram_words.specs.declared.Part.{Part}
use Rattle.histogram_c.specs.Posts.{HistogramOpenPost, HistogramInsertPost, BinsPost}

-- any two outcomes of a call coincide: this is said of the calls whose contract is a record; every other one is an equation for its answer
unfoldable pub HistogramOpensOneWay : Type 0
HistogramOpensOneWay =
    (bs cs : List ℕ) (r s : HistogramAnswer) (cs' cs'' : List ℕ)
    → HistogramOpenPost bs cs r cs' → HistogramOpenPost bs cs s cs'' → (r ≡ s) × (cs' ≡ cs'')

unfoldable pub HistogramInsertsOneWay : Type 0
HistogramInsertsOneWay =
    (w : HistogramWords) (bs cs : List ℕ) (v : ℕ) (r s : HistogramAnswer) (cs' cs'' : List ℕ)
    → HistogramInsertPost w bs cs v r cs' → HistogramInsertPost w bs cs v s cs'' → (r ≡ s) × (cs' ≡ cs'')

unfoldable pub BinsOneWay : Type 0
BinsOneWay = (h : Histogram) (bs cs : List ℕ) (l u : Bound) (r s : Part) → BinsPost h bs cs l u r → BinsPost h bs cs l u s → r ≡ s
