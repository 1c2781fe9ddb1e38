-- What holds after each call on a histogram that writes or hands back a part.
-- Assumes nothing: these are definitions.
use Rattle.std.specs.Prelude.{◌≡◌, ℕ, ◌+◌, ◌≤◌, cond, List, eqb, length, take, drop, Result}
use Rattle.refusal.specs.declared.Refusal.{Refusal}
use Rattle.histogram_rows.specs.declared.Bound.{Bound}
use Rattle.histogram_steps.specs.declared.Histogram.{Histogram}
use Rattle.histogram_steps.specs.Opening.{OpenPost}
use Rattle.histogram.specs.Posts.{InsertPost}
use Rattle.histogram.specs.Answers.{bins_answer, bins_number}
use Rattle.histogram_rows.specs.Bounds.{ending}
use Rattle.histogram_words.specs.declared.HistogramWords.{HistogramWords}
use Rattle.histogram_words.specs.declared.HistogramAnswer.{HistogramAnswer}
use Rattle.histogram_words.specs.declared.Part.{Part}
use Rattle.histogram_words.specs.Histograms.{histogram_of, flat_opened, flat_inserted}

-- `stelo_histogram_open`
pub record HistogramOpenPost (bs cs : List ℕ) (answer : HistogramAnswer) (cs' : List ℕ) : Type 0 where
  pub core : Result Histogram Refusal
  pub post : OpenPost bs cs core cs'
  pub flat : answer ≡ flat_opened core

-- `stelo_histogram_insert`
pub record HistogramInsertPost (given : HistogramWords) (bs cs : List ℕ) (v : ℕ) (answer : HistogramAnswer) (cs' : List ℕ) : Type 0 where
  pub core : Result Histogram Refusal
  pub post : InsertPost (histogram_of given) bs cs v core cs'
  pub flat : answer ≡ flat_inserted given core

-- where the part begins: behind the bins with bound ≤ l; 0 where the call is refused
abbrev pub start_of : ℕ → List ℕ → Bound → ℕ
start_of refusal bs l = cond (eqb refusal 0) (ending bs l) 0

-- `stelo_histogram_bins`: the refusal's number or 0, and the place and length of the part that the core's `bins` hands back
pub record BinsPost (h : Histogram) (bs cs : List ℕ) (l u : Bound) (answer : Part) : Type 0 where
  pub refused : answer.refusal ≡ bins_number h bs cs
  pub begins : answer.start ≡ start_of (bins_number h bs cs) bs l
  pub long : answer.length ≡ length (bins_answer h bs cs l u)
  pub within : answer.start + answer.length ≤ length cs
  pub there : take answer.length (drop answer.start cs) ≡ bins_answer h bs cs l u
