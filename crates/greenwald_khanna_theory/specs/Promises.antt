-- What is promised of the definitions alone, each statement under its name; the contract of `promises` states them all.
-- Assumes nothing: these are definitions.
use Rattle.std.specs.Prelude.{◌≡◌, true, ℕ, ◌*◌, ◌-◌, ◌≤◌, List, [], ◌∷◌, ◌++◌, length}
use Rattle.std.proofs.Math.Option.{some}
use Rattle.fraction.specs.declared.Fraction.{Fraction}
use Rattle.fraction.specs.Allowed.{is_epsilon, is_phi}
use Rattle.fraction.specs.Products.{p_of, e_of}
use Rattle.entries.specs.declared.Entry.{Entry}
use Rattle.entries.specs.Entry.{sum_g}
use Rattle.entries.specs.Ranks.{StandsAt}
use Rattle.greenwald_khanna_theory.specs.Answered.{WithinRanks}
use Rattle.greenwald_khanna_theory.specs.Explains.{Explains}
use Rattle.greenwald_khanna_theory.specs.Readings.{Readings}
use Rattle.greenwald_khanna_theory.specs.Sound.{sound_entries}
use Rattle.greenwald_khanna_theory.specs.State.{State, fresh, tidied, insert, rank, answer_at, quantile}
use Rattle.greenwald_khanna_theory.specs.Summary.{compress}
use Rattle.greenwald_khanna_theory.specs.Sweep.{sweep}

-- the entries are sound for their n
abbrev pub Sound : Fraction → State → Type 0
Sound ε s = sound_entries (p_of ε s.n) s.n s.entries ≡ true

-- the value of the last entry, where v is the value before the list
abbrev pub last_value : ℕ → List Entry → ℕ
last_value v [] = v
last_value v (e ∷ es) = last_value e.v es

-- a fresh stream is sound, and the empty list explains it
unfoldable pub FreshSound : Type 0
FreshSound = (ε : Fraction) → Sound ε fresh × Explains [] fresh

-- an insert keeps a stream sound; a list that explains it explains it afterwards with the observation added
unfoldable pub InsertKeeps : Type 0
InsertKeeps =
    (ε : Fraction) (s : State) (x : ℕ) → Sound ε s
    → Sound ε (insert ε s x) × ((X : List ℕ) → Explains X s → Explains (X ++ x ∷ []) (insert ε s x))

-- compression at any time keeps both
unfoldable pub TidiedKeeps : Type 0
TidiedKeeps = (ε : Fraction) (s : State) → Sound ε s → Sound ε (tidied ε s) × ((X : List ℕ) → Explains X s → Explains X (tidied ε s))

-- a quantile of a sound stream is answered within the ranks, for every list that explains it
unfoldable pub QuantileAnswers : Type 0
QuantileAnswers =
    (ε : Fraction) → is_epsilon ε ≡ true → (s : State) → Sound ε s → 1 ≤ s.n → (φ : Fraction) → is_phi φ ≡ true → (X : List ℕ) → Explains X s
    → (v : ℕ) × (quantile ε s φ ≡ some v) × WithinRanks X (rank φ s.n) (e_of ε s.n) v

-- every sound stream is explained by some list
unfoldable pub EachExplained : Type 0
EachExplained = (ε : Fraction) (s : State) → Sound ε s → (X : List ℕ) × Explains X s

-- the g add up to n, and no more entries are held than were observed
unfoldable pub HeldWithin : Type 0
HeldWithin = (ε : Fraction) (s : State) → Sound ε s → (sum_g s.entries ≡ s.n) × (length s.entries ≤ s.n)

-- the Rust's loop, i from held - 2 down to 1, is the compression
unfoldable pub SweepCompresses : Type 0
SweepCompresses = (p : ℕ) (es : List Entry) → sweep p (length es - 2) es ≡ compress p es

-- a larger φ never gives a smaller value
unfoldable pub NeverCross : Type 0
NeverCross =
    (ε : Fraction) (s : State) → Sound ε s → (φ ψ : Fraction) → is_phi φ ≡ true → is_phi ψ ≡ true → φ.num * ψ.den ≤ ψ.num * φ.den
    → (a b : ℕ) → quantile ε s φ ≡ some a → quantile ε s ψ ≡ some b → a ≤ b

-- every answer lies between the first and the last entry's value
unfoldable pub BetweenEnds : Type 0
BetweenEnds =
    (ε : Fraction) (s : State) → Sound ε s → (f : Entry) (es : List Entry) → s.entries ≡ f ∷ es
    → (r a : ℕ) → answer_at ε s r ≡ some a → (f.v ≤ a) × (a ≤ last_value f.v es)

-- the first and the last entry's value are the first and the last of the sorted observations
unfoldable pub EndsAreExtremes : Type 0
EndsAreExtremes =
    (ε : Fraction) (s : State) → Sound ε s → (X : List ℕ) → Explains X s → (f : Entry) (es : List Entry) → s.entries ≡ f ∷ es
    → StandsAt X 1 f.v × StandsAt X (length X) (last_value f.v es)

pub record Promises : Type 0 where
  pub readings : Readings
  pub fresh_sound : FreshSound
  pub insert_keeps : InsertKeeps
  pub tidied_keeps : TidiedKeeps
  pub quantile_answers : QuantileAnswers
  pub each_explained : EachExplained
  pub held_within : HeldWithin
  pub sweep_compresses : SweepCompresses
  pub never_cross : NeverCross
  pub between_ends : BetweenEnds
  pub ends_are_extremes : EndsAreExtremes
