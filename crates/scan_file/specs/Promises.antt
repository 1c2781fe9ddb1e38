-- What is promised of the layout, each statement under its name; the contract of `promises` states them all.
-- Assumes nothing: these are definitions.
use Rattle.std.specs.Prelude.{◌≡◌, List, [], ◌∷◌, ℕ, ◌≤◌, ◌<◌, length, get_or, Some}
use Rattle.fraction.specs.declared.Fraction.{Fraction}
use Rattle.scan_file.specs.Layout.{Scan, Fits, encoded, parsed, file_bytes, fraction_at, observation_at}
use Rattle.scan_file.specs.Words.{Below}

-- the file of a scan is taken, and means that scan
unfoldable pub EncodedIsTaken : Type 0
EncodedIsTaken = (s : Scan) → Fits s → parsed (encoded s) ≡ Some s

-- bytes that are taken are the file of the scan that they mean, and nothing else
unfoldable pub TakenIsEncoded : Type 0
TakenIsEncoded = (bytes : List ℕ) → Below 256 bytes → (s : Scan) → parsed bytes ≡ Some s → Fits s × (encoded s ≡ bytes)

-- no file is longer than the limit
unfoldable pub NoneLonger : Type 0
NoneLonger = (bytes : List ℕ) (s : Scan) → parsed bytes ≡ Some s → length bytes ≤ file_bytes

-- where fraction i and observation i of the scan stand in the file
unfoldable pub FractionStands : Type 0
FractionStands =
    (bytes : List ℕ) (s : Scan) → parsed bytes ≡ Some s
    → (i : ℕ) (d : Fraction) → i < length s.fractions → get_or s.fractions i d ≡ fraction_at bytes i

unfoldable pub ObservationStands : Type 0
ObservationStands =
    (bytes : List ℕ) (s : Scan) → parsed bytes ≡ Some s
    → (i : ℕ) → i < length s.observations → get_or s.observations i 0 ≡ observation_at bytes (length s.fractions) i

-- ε 1/4, the fraction 1/2, the observations 30 and 1000: 36 bytes
abbrev pub example : Scan
example = record {
  epsilon = record { num = 1; den = 4 };
  fractions = record { num = 1; den = 2 } ∷ [];
  observations = 30 ∷ 1000 ∷ [];
}

unfoldable pub ExampleBytes : Type 0
ExampleBytes =
    encoded example
    ≡ 2 ∷ 0 ∷ 0 ∷ 0 ∷ 1 ∷ 0 ∷ 0 ∷ 0 ∷ 4 ∷ 0 ∷ 0 ∷ 0
    ∷ 2 ∷ 0 ∷ 0 ∷ 0 ∷ 1 ∷ 0 ∷ 0 ∷ 0 ∷ 2 ∷ 0 ∷ 0 ∷ 0
    ∷ 2 ∷ 0 ∷ 0 ∷ 0 ∷ 30 ∷ 0 ∷ 0 ∷ 0 ∷ 232 ∷ 3 ∷ 0 ∷ 0 ∷ []

pub record Promises : Type 0 where
  pub encoded_is_taken : EncodedIsTaken
  pub taken_is_encoded : TakenIsEncoded
  pub none_longer : NoneLonger
  pub fraction_stands : FractionStands
  pub observation_stands : ObservationStands
  pub example_bytes : ExampleBytes
