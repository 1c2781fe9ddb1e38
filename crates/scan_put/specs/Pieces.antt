-- The pieces of a line: words with a number, and a fraction.
-- Assumes nothing: these are definitions.
use Rattle.std.specs.Prelude.{ℕ, List, ◌++◌, codes}
use Rattle.fraction.specs.declared.Fraction.{Fraction}
use Rattle.scan_put.specs.Decimal.{decimal}

-- a word or words, a number, and the end of the line
abbrev pub named : List ℕ → ℕ → List ℕ
named word n = word ++ (decimal n ++ codes "\n")

-- a fraction as it was given
abbrev pub shown : Fraction → List ℕ
shown f = decimal f.num ++ (codes "/" ++ decimal f.den)
