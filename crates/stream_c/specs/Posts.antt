-- What holds after each call on a stream: the core's post-condition of the core's answer, and the answer in numbers.
-- Assumes nothing: these are definitions.
use Rattle.std.specs.Prelude.{◌≡◌, ℕ, Result, List}
use Rattle.refusal.specs.declared.Refusal.{Refusal}
use Rattle.entries.specs.declared.Entry.{Entry}
use Rattle.greenwald_khanna_steps.specs.declared.Stream.{Stream}
use Rattle.greenwald_khanna_steps.specs.Opening.{OpenPost}
use Rattle.greenwald_khanna.specs.Posts.{InsertPost, QuantilePost}
use Rattle.words.specs.declared.Number.{Number}
use Rattle.words.specs.declared.Ratio.{Ratio}
use Rattle.stream_words.specs.declared.StreamWords.{StreamWords}
use Rattle.stream_words.specs.declared.StreamAnswer.{StreamAnswer}
use Rattle.words.specs.Words.{fraction_of}
use Rattle.stream_words.specs.Streams.{stream_of, flat_opened, flat_inserted, flat_answer}

-- `stelo_stream_open`
pub record StreamOpenPost (epsilon : Ratio) (before : List Entry) (answer : StreamAnswer) (list : List Entry) : Type 0 where
  pub core : Result Stream Refusal
  pub post : OpenPost (fraction_of epsilon) before core list
  pub flat : answer ≡ flat_opened core

-- `stelo_stream_insert`
pub record StreamInsertPost (given : StreamWords) (before : List Entry) (x : ℕ) (answer : StreamAnswer) (list : List Entry) : Type 0 where
  pub core : Result Stream Refusal
  pub post : InsertPost (stream_of given) before x core list
  pub flat : answer ≡ flat_inserted given core

-- `stelo_stream_quantile`
pub record StreamQuantilePost (given : StreamWords) (list : List Entry) (phi : Ratio) (answer : Number) : Type 0 where
  pub core : Result ℕ Refusal
  pub post : QuantilePost (stream_of given) list (fraction_of phi) core
  pub flat : answer ≡ flat_answer core
