-- The readings of the stream that the rules list, inputs that tell its plausible slips apart, and inputs at which the bound is sharp.
-- Assumes nothing: these are definitions.
use Rattle.std.specs.Prelude.{◌≡◌, ℕ, List, [], ◌∷◌, replicate, take, Ok, Err}
use Rattle.refusal.specs.declared.Refusal.TheVariants.{Full}
use Rattle.fraction.specs.declared.Fraction.{Fraction}
use Rattle.entries.specs.declared.Entry.{Entry}
use Rattle.entries.specs.Entry.{entry, zero_entry}
use Rattle.greenwald_khanna_steps.specs.Opening.{opened, opened_list}
use Rattle.greenwald_khanna.specs.Answers.{inserted}
use Rattle.noise_floor.specs.Demand3.{Given, given, run, asked}

-- num / den
abbrev pub over : ℕ → ℕ → Fraction
over num den = record { num = num; den = den }

-- a stream that has seen nothing, over so many slots
abbrev pub start : Fraction → ℕ → Given
start ε slots = given (record { epsilon = ε; n = 0; held = 0 }) (replicate slots zero_entry)

-- all xs inserted, with slots to spare
abbrev pub scan : Fraction → List ℕ → Given
scan ε xs = run (start ε 16) xs

-- the entries held
abbrev pub held : Given → List Entry
held at = take at.stream.held at.list

-- the observations of readings 1 and 2
abbrev pub six : List ℕ
six = 30 ∷ 10 ∷ 20 ∷ 40 ∷ 25 ∷ 35 ∷ []

pub record StreamReadings : Type 0 where
  -- opening gives the stream that the readings start from
  pub opens : opened (over 1 4) (replicate 16 zero_entry) ≡ Ok (start (over 1 4) 16).stream
  pub opens_zero : opened_list (over 1 4) (entry 7 8 9 ∷ entry 4 5 6 ∷ []) ≡ zero_entry ∷ zero_entry ∷ []
  -- 1: ε 1/4
  pub reading_1 : held (scan (over 1 4) six) ≡ entry 10 1 0 ∷ entry 20 1 1 ∷ entry 30 2 0 ∷ entry 40 2 0 ∷ []
  -- 2: there φ 1/2, 0/1, 1/1, 1/4
  pub reading_2_half : asked (scan (over 1 4) six) (over 1 2) ≡ Ok 30
  pub reading_2_zero : asked (scan (over 1 4) six) (over 0 1) ≡ Ok 10
  pub reading_2_one : asked (scan (over 1 4) six) (over 1 1) ≡ Ok 40
  pub reading_2_quarter : asked (scan (over 1 4) six) (over 1 4) ≡ Ok 10
  -- 5: two slots, and the third observation is refused
  pub reading_5 : inserted (run (start (over 1 4) 2) (1 ∷ 2 ∷ [])).stream (run (start (over 1 4) 2) (1 ∷ 2 ∷ [])).list 3 ≡ Err Full
  -- delta is taken from n before the increment
  pub delta_before : held (scan (over 1 3) (1 ∷ 0 ∷ 0 ∷ [])) ≡ entry 0 1 0 ∷ entry 0 1 1 ∷ entry 1 1 0 ∷ []
  -- an equal band may be deleted, a larger one may not
  pub band_equal : held (scan (over 1 2) (0 ∷ 0 ∷ 0 ∷ [])) ≡ entry 0 1 0 ∷ entry 0 2 0 ∷ []
  pub band_larger : held (scan (over 3 7) (2 ∷ 1 ∷ 1 ∷ 1 ∷ 1 ∷ 1 ∷ 1 ∷ 1 ∷ 0 ∷ []))
      ≡ entry 0 1 0 ∷ entry 1 1 0 ∷ entry 1 1 1 ∷ entry 2 6 0 ∷ []
  -- the period is rounded down
  pub period_down : held (scan (over 1 3) (0 ∷ 0 ∷ 0 ∷ 0 ∷ 0 ∷ [])) ≡ entry 0 1 0 ∷ entry 0 2 0 ∷ entry 0 2 0 ∷ []
  -- compression goes from the last entry to the first
  pub from_the_last : held (scan (over 3 8) (0 ∷ 0 ∷ 0 ∷ 0 ∷ [])) ≡ entry 0 1 0 ∷ entry 0 1 0 ∷ entry 0 2 0 ∷ []
  -- the bound is sharp below: r = 2, e = 0, and the answer stands at rank 1 = r - e - 1
  pub sharp_below : asked (scan (over 1 4) (2 ∷ 0 ∷ 1 ∷ [])) (over 2 3) ≡ Ok 0
  -- and above: r = 2, e = 0, and the answer stands at rank 2 = r + e
  pub sharp_above : asked (scan (over 1 4) (1 ∷ 0 ∷ [])) (over 1 1) ≡ Ok 1
  -- the Rust's comment has ranks from ⌊(φ - ε)n⌋, which is 2 here, and the answer stands at rank 1
  pub under_the_comment : asked (scan (over 1 4) (2 ∷ 0 ∷ 1 ∷ [])) (over 15 16) ≡ Ok 0
  -- φ = 0 need not give the least
  pub zero_not_least : asked (scan (over 3 7) (1 ∷ 1 ∷ 1 ∷ 1 ∷ 0 ∷ [])) (over 0 1) ≡ Ok 1
