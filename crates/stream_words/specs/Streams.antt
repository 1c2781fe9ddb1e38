-- A stream's state as words, and its answers as numbers.
-- Assumes nothing: these are definitions.
use Rattle.std.specs.Prelude.{ℕ, Result, Ok, Err}
use Rattle.refusal.specs.declared.Refusal.{Refusal}
use Rattle.refusal.specs.Number.{number_of}
use Rattle.greenwald_khanna_steps.specs.declared.Stream.{Stream}
use Rattle.words.specs.declared.Number.{Number}
use Rattle.stream_words.specs.declared.StreamWords.{StreamWords}
use Rattle.stream_words.specs.declared.StreamAnswer.{StreamAnswer}
use Rattle.words.specs.Words.{number_told}

-- the state of words, and back
abbrev pub stream_of : StreamWords → Stream
stream_of w = record { epsilon = record { num = w.num; den = w.den }; n = w.n; held = w.held }

abbrev pub words_of : Stream → StreamWords
words_of st = record { num = st.epsilon.num; den = st.epsilon.den; n = st.n; held = st.held }

-- an insert: the stream after it, or the refusal's number and the stream that was given
abbrev pub flat_inserted : StreamWords → Result Stream Refusal → StreamAnswer
flat_inserted given (Ok st) = record { refusal = 0; stream = words_of st }
flat_inserted given (Err why) = record { refusal = number_of why; stream = given }

-- opening: the same, with all words 0 for the stream that was given
abbrev pub flat_opened : Result Stream Refusal → StreamAnswer
flat_opened answer = flat_inserted (record { num = 0; den = 0; n = 0; held = 0 }) answer

-- a question: the value, or the refusal's number
abbrev pub flat_answer : Result ℕ Refusal → Number
flat_answer answer = number_told answer
