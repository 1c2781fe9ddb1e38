-- A histogram's state as words, and its answers as numbers.
-- Assumes nothing: these are definitions.
use Rattle.std.specs.Prelude.{ℕ, Bool, cond, ◌&&◌, leb, eqb, Option, Some, None, Result, Ok, Err}
use Rattle.refusal.specs.declared.Refusal.{Refusal}
use Rattle.refusal.specs.Number.{number_of}
use Rattle.histogram_rows.specs.declared.Bound.{Bound}
use Rattle.histogram_steps.specs.declared.Histogram.{Histogram}
use Rattle.words.specs.declared.Number.{Number}
use Rattle.histogram_words.specs.declared.HistogramWords.{HistogramWords}
use Rattle.histogram_words.specs.declared.HistogramAnswer.{HistogramAnswer}
use Rattle.histogram_words.specs.declared.BoundWords.{BoundWords}
use Rattle.histogram_words.specs.declared.SumAnswer.{SumAnswer}
use Rattle.words.specs.Words.{largest, number_told, flag_fits}

-- the words fit a histogram: a count of 32 bits, and a flag that fits the sum
abbrev pub fits : HistogramWords → Bool
fits w = leb w.count largest && flag_fits w.has_sum (eqb w.sum 0)

-- the state of words that fit none: never sound, whatever is lent
abbrev pub misfit : Histogram
misfit = record { count = largest; sum = None }

-- the state of words
abbrev pub sum_beside : ℕ → ℕ → Option ℕ
sum_beside flag x = cond (eqb flag 1) (Some x) None

abbrev pub histogram_of : HistogramWords → Histogram
histogram_of w = cond (fits w) (record { count = w.count; sum = sum_beside w.has_sum w.sum }) misfit

-- the words of a state: what there is not, is 0 behind a flag of 0
abbrev pub sum_flag : Option ℕ → ℕ
sum_flag None = 0
sum_flag (Some x) = 1

abbrev pub sum_word : Option ℕ → ℕ
sum_word None = 0
sum_word (Some x) = x

abbrev pub words_of : Histogram → HistogramWords
words_of h = record { count = h.count; has_sum = sum_flag h.sum; sum = sum_word h.sum }

-- +Inf unless the first word is 0
abbrev pub bound_of : BoundWords → Bound
bound_of b = cond (eqb b.infinite 0) (Bound.Finite b.value) Bound.PosInf

-- an insert: the histogram after it, or the refusal's number and the histogram that was given
abbrev pub flat_inserted : HistogramWords → Result Histogram Refusal → HistogramAnswer
flat_inserted given (Ok h) = record { refusal = 0; histogram = words_of h }
flat_inserted given (Err why) = record { refusal = number_of why; histogram = given }

-- opening: the histogram, or the refusal's number and no words
abbrev pub flat_opened : Result Histogram Refusal → HistogramAnswer
flat_opened r = flat_inserted (record { count = 0; has_sum = 0; sum = 0 }) r

-- a count, or the refusal's number
abbrev pub flat_counted : Result ℕ Refusal → Number
flat_counted r = number_told r

-- the sum and whether there is one, or the refusal's number
abbrev pub flat_summed : Result (Option ℕ) Refusal → SumAnswer
flat_summed (Ok s) = record { refusal = 0; has_sum = sum_flag s; sum = sum_word s }
flat_summed (Err why) = record { refusal = number_of why; has_sum = 0; sum = 0 }
