-- The statements that are promised of the histogram's words beside each conversion's own contract; their proofs are in proofs/.
-- Assumes nothing: these are statements.
use Rattle.std.specs.Prelude.{◌≡◌, ℕ, ◌≤◌, false, cond, List, Err}
use Rattle.refusal.specs.declared.Refusal.TheVariants.{Slots, Damaged}
use Rattle.histogram_steps.specs.declared.Histogram.{Histogram}
use Rattle.histogram_steps.specs.Standing as histogram-standing
use Rattle.words.specs.Words.{largest}
use Rattle.histogram_words.specs.declared.HistogramWords.{HistogramWords}
use Rattle.histogram_words.specs.Histograms as histogram

-- words that fit no histogram are refused as DAMAGED, after SLOTS, whatever is lent
unfoldable pub HistogramMisfits : Type 0
HistogramMisfits =
    (w : HistogramWords) (bs cs : List ℕ) → histogram.fits w ≡ false
    → histogram-standing.standing (histogram.histogram_of w) bs cs
    ≡ cond (histogram-standing.fits bs cs) (Err Damaged) (Err Slots)

-- the words of a state are read as that state again
unfoldable pub HistogramBack : Type 0
HistogramBack = (h : Histogram) → h.count ≤ largest → histogram.histogram_of (histogram.words_of h) ≡ h
