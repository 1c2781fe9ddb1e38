-- The words of a histogram are read as that histogram again.
-- Assumes nothing.
use mathlib.Core.Path.{◌≡◌}
use Prim.Native.Nat.{ℕ}
use borrow.Author.Tests.{le-leb}
use Rattle.std.proofs.Common.{Option, Some, None}
use Rattle.histogram_steps.specs.declared.Histogram.{Histogram}
use Rattle.words.specs.Words.{largest}
use Rattle.histogram_words.specs.Histograms as histogram
use Rattle.histogram_words.specs.Laws.{HistogramBack}

pub histogram_back : HistogramBack
unfolding HistogramBack
histogram_back h a = go h.sum
  where
    with : Option ℕ → Histogram
    with s = record { count = h.count; sum = s }

    go : (s : Option ℕ) → histogram.histogram_of (histogram.words_of (with s)) ≡ with s
    go None = rw (le-leb h.count largest a)
    go (Some x) = rw (le-leb h.count largest a)
