-- The lines about a scan whose observations were inserted, and the text of lines.
-- Assumes nothing: these are definitions.
use Rattle.std.specs.Prelude.{ℕ, List, [], ◌∷◌, ◌++◌, map, Option, Some, None, Result, Ok, Err}
use Rattle.refusal.specs.declared.Refusal.{Refusal}
use Rattle.refusal.specs.Number.{number_of}
use Rattle.fraction.specs.declared.Fraction.{Fraction}
use Rattle.entries.specs.declared.Entry.{Entry}
use Rattle.greenwald_khanna_steps.specs.declared.Stream.{Stream}
use Rattle.greenwald_khanna.specs.Answers.{quantiled}
use Rattle.scan_text.specs.declared.Line.{Line}
use Rattle.scan_text.specs.declared.Line.TheVariants.{Taken, Held, InsertRefused, Value, Refused}
use Rattle.scan_text.specs.Lines.{text_of}
use Rattle.scan_insert.specs.Inserts.{End}

-- a fraction's line: its value or its refusal number
abbrev pub answer_line : Fraction → Result ℕ Refusal → Line
answer_line φ (Ok v) = Value φ v
answer_line φ (Err why) = Refused φ (number_of why)

abbrev pub fraction_line : Stream → List Entry → Fraction → Line
fraction_line st list φ = answer_line φ (quantiled st list φ)

-- the line of a refused insert, if one was: any number is written
abbrev pub refused_line : Option ℕ → List Line
refused_line None = []
refused_line (Some number) = InsertRefused number ∷ []

-- the lines of a scan whose observations were inserted
abbrev pub scan_lines : End → List Fraction → List Line
scan_lines e fs =
    Taken e.ran.stream.n
    ∷ Held e.ran.stream.held
    ∷ (refused_line e.ran.refused ++ map (fraction_line e.ran.stream e.list) fs)

-- the text of lines
unfoldable pub texts : List Line → List ℕ
texts [] = []
texts (l ∷ ls) = text_of l ++ texts ls
