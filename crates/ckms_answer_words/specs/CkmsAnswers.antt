-- The answers of the calls on a CKMS as numbers.
-- Assumes nothing: these are definitions.
use Rattle.std.specs.Prelude.{ℕ, false, pos, Option, Result, Ok, Err}
use Rattle.std.specs.Float.{fin}
use Rattle.refusal.specs.declared.Refusal.{Refusal}
use Rattle.refusal.specs.Number.{number_of}
use Rattle.fraction.specs.declared.Fraction.{Fraction}
use Rattle.mean.specs.declared.Mean.{Mean}
use Rattle.ckms_steps.specs.declared.CKMS.{CKMS}
use Rattle.words.specs.declared.Number.{Number}
use Rattle.words.specs.Words.{number_told}
use Rattle.ckms_words.specs.declared.CkmsWords.{CkmsWords}
use Rattle.ckms_words.specs.Ckmses.{misfit, words_of, last_flag, last_word, mean_flag, mean_word}
use Rattle.ckms_answer_words.specs.declared.CkmsAnswer.{CkmsAnswer}
use Rattle.ckms_answer_words.specs.declared.LastAnswer.{LastAnswer}
use Rattle.ckms_answer_words.specs.declared.MeanAnswer.{MeanAnswer}
use Rattle.ckms_answer_words.specs.declared.ErrorAnswer.{ErrorAnswer}

-- an insert: the CKMS after it, or the refusal's number and the CKMS that was given
abbrev pub flat_inserted : CkmsWords → Result CKMS Refusal → CkmsAnswer
flat_inserted given (Ok c) = record { refusal = 0; ckms = words_of c }
flat_inserted given (Err why) = record { refusal = number_of why; ckms = given }

-- opening: the CKMS, or the refusal's number
abbrev pub flat_opened : Result CKMS Refusal → CkmsAnswer
flat_opened answer = flat_inserted (words_of misfit) answer

-- the observations accepted, or the refusal's number
abbrev pub flat_counted : Result ℕ Refusal → Number
flat_counted answer = number_told answer

-- the last value and whether there is one, or the refusal's number
abbrev pub flat_last : Result (Option ℕ) Refusal → LastAnswer
flat_last (Ok l) = record { refusal = 0; has_last = last_flag l; last = last_word l }
flat_last (Err why) = record { refusal = number_of why; has_last = 0; last = 0 }

-- the mean and whether there is one, or the refusal's number
abbrev pub flat_average : Result (Option Mean) Refusal → MeanAnswer
flat_average (Ok m) = record { refusal = 0; has_mean = mean_flag m; mean = mean_word m }
flat_average (Err why) = record { refusal = number_of why; has_mean = 0; mean = fin false 0 (pos 0) }

-- the error as opened, or the refusal's number
abbrev pub flat_error : Result Fraction Refusal → ErrorAnswer
flat_error (Ok f) = record { refusal = 0; error = record { num = f.num; den = f.den } }
flat_error (Err why) = record { refusal = number_of why; error = record { num = 0; den = 0 } }
