-- The words and answers that every module has.
-- Assumes nothing: these are definitions.
use Rattle.std.specs.Prelude.{ℕ, Bool, ◌&&◌, ◌||◌, eqb, Result, Ok, Err}
use Rattle.fraction.specs.declared.Fraction.{Fraction}
use Rattle.refusal.specs.declared.Refusal.{Refusal}
use Rattle.refusal.specs.Number.{number_of}
use Rattle.words.specs.declared.Number.{Number}
use Rattle.words.specs.declared.Ratio.{Ratio}

-- the fraction of two words
abbrev pub fraction_of : Ratio → Fraction
fraction_of f = record { num = f.num; den = f.den }

-- the two words of a fraction
abbrev pub ratio_of : Fraction → Ratio
ratio_of f = record { num = f.num; den = f.den }

-- what a refused call tells
abbrev pub refused : Refusal → Number
refused why = record { refusal = number_of why; value = 0 }

-- 0 and a state, or the refusal's number and the state that was given
abbrev pub answered : {W : Type 0} → W → Result W Refusal → ℕ × W
answered given (Ok state) = (0, state)
answered given (Err why) = (number_of why, given)

-- a number, or the refusal's number
abbrev pub number_told : Result ℕ Refusal → Number
number_told (Ok v) = record { refusal = 0; value = v }
number_told (Err why) = refused why

-- the largest number of 32 bits
abbrev pub largest : ℕ
largest = 4294967295

-- a flag fits what stands beside it: it is 1, or 0 with nothing there
abbrev pub flag_fits : ℕ → Bool → Bool
flag_fits flag nothing = eqb flag 1 || (eqb flag 0 && nothing)
