-- What a stream can be asked, and what each question answers: the core's definitions.
-- Assumes nothing: these are definitions.
use Rattle.std.specs.Prelude.{ℕ, Result, List}
use Rattle.refusal.specs.declared.Refusal.{Refusal}
use Rattle.fraction.specs.declared.Fraction.{Fraction}
use Rattle.entries.specs.declared.Entry.{Entry}
use Rattle.greenwald_khanna_steps.specs.declared.Stream.{Stream}
use Rattle.greenwald_khanna_told.specs.Answers.{told_p, told_n, told_s}
use Rattle.greenwald_khanna.specs.Answers.{quantiled}

-- a quantile, p, how many observations, how many entries
pub data Question : Type 0 where
  Quantile : Fraction → Question
  P : Question
  N : Question
  S : Question

-- what a question is answered
abbrev pub answer_to : Question → Stream → List Entry → Result ℕ Refusal
answer_to (Quantile φ) st list = quantiled st list φ
answer_to P st list = told_p st list
answer_to N st list = told_n st list
answer_to S st list = told_s st list
