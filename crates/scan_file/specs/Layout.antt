-- The scan file: what it means, which bytes it has, and how it is read back.
-- Assumes nothing: these are definitions.
use Rattle.std.specs.Prelude.{ℕ, ◌+◌, ◌*◌, ◌/◌, ◌%◌, ◌^◌, ◌≤◌, Bool, cond, ◌&&◌, List, [], ◌∷◌, ◌++◌, leb, eqb, length, Option, Some, None}
use Rattle.fraction.specs.declared.Fraction.{Fraction}
use Rattle.scan_file.specs.Words.{bytes_of, word_at, each, Below}

-- what a scan file means
pub record Scan : Type 0 where
  pub epsilon : Fraction
  pub fractions : List Fraction
  pub observations : List ℕ

-- the most words of fractions, two to a fraction; the most observations; and the most bytes of a file
abbrev pub fraction_words : ℕ
fraction_words = 128

abbrev pub observations : ℕ
observations = 8192

abbrev pub file_bytes : ℕ
file_bytes = 4 * (5 + fraction_words + observations)

-- the words of fractions
unfoldable pub flat : List Fraction → List ℕ
flat [] = []
flat (f ∷ fs) = f.num ∷ f.den ∷ flat fs

-- a section: its words, after their count
abbrev pub section : List ℕ → List ℕ
section ws = length ws ∷ ws

-- the file of a scan: three sections in fixed order, as words and as bytes
abbrev pub words_of : Scan → List ℕ
words_of s = section (flat (s.epsilon ∷ [])) ++ (section (flat s.fractions) ++ section s.observations)

abbrev pub encoded : Scan → List ℕ
encoded s = bytes_of (words_of s)

-- a scan that has a file: each word fits 32 bits, and neither list is too long
pub record Fits (s : Scan) : Type 0 where
  pub words : Below (2 ^ 32) (words_of s)
  pub fractions_fit : length (flat s.fractions) ≤ fraction_words
  pub observations_fit : length s.observations ≤ observations

-- the counts of the second and the third section
abbrev pub fraction_count : List ℕ → ℕ
fraction_count bytes = word_at bytes 3

abbrev pub observation_count : List ℕ → ℕ
observation_count bytes = word_at bytes (4 + fraction_count bytes)

-- whether bytes are a scan file
unfoldable pub well_formed : List ℕ → Bool
well_formed bytes =
    eqb (word_at bytes 0) 2
    && (leb (fraction_count bytes) fraction_words
    && (eqb (fraction_count bytes % 2) 0
    && (leb (observation_count bytes) observations
    && eqb (length bytes) (4 * (5 + fraction_count bytes + observation_count bytes)))))

-- fraction i of a file, and observation i of a file with k fractions
abbrev pub fraction_at : List ℕ → ℕ → Fraction
fraction_at bytes i = record { num = word_at bytes (4 + 2 * i); den = word_at bytes (5 + 2 * i) }

abbrev pub observation_at : List ℕ → ℕ → ℕ → ℕ
observation_at bytes k i = word_at bytes (5 + 2 * k + i)

-- the first k fractions of a file, and the first n observations of a file with k fractions
abbrev pub fractions_at : List ℕ → ℕ → List Fraction
fractions_at bytes k = each (fraction_at bytes) 0 k

abbrev pub observations_at : List ℕ → ℕ → ℕ → List ℕ
observations_at bytes k n = each (observation_at bytes k) 0 n

-- what a scan file says
abbrev pub scan_of : List ℕ → Scan
scan_of bytes = record {
  epsilon = record { num = word_at bytes 1; den = word_at bytes 2 };
  fractions = fractions_at bytes (fraction_count bytes / 2);
  observations = observations_at bytes (fraction_count bytes / 2) (observation_count bytes);
}

-- the scan in the bytes, if they are a scan file
unfoldable pub parsed : List ℕ → Option Scan
parsed bytes = cond (well_formed bytes) (Some (scan_of bytes)) None
