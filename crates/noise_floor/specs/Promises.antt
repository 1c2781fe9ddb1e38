-- What is promised of a whole run and of its floor, each statement under its name; the contract of `promises` states them all.
-- Assumes nothing: these are definitions.
use Rattle.std.specs.Prelude.{◌≡◌, ℕ, List, Result}
use Rattle.refusal.specs.declared.Refusal.{Refusal}
use Rattle.fraction.specs.declared.Fraction.{Fraction}
use Rattle.entries.specs.declared.Entry.{Entry}
use Rattle.entries.specs.Entry.{entries_of}
use Rattle.entries.specs.Promises.{Threes}
use Rattle.noise_floor.specs.Demand3.{Demand3}
use Rattle.noise_floor.specs.Floor.{FloorPost}
use Rattle.noise_floor.specs.Readings.{StreamReadings}

-- any two outcomes that the contract of `floor` allows for one input coincide: the answers, and every word of the lent rows
unfoldable pub OneFloor : Type 0
OneFloor =
    (ε : Fraction) (before : List Entry) (obs : List ℕ) (φ : Fraction) (a b : Result ℕ Refusal) (xs ys : List (List ℕ)) → Threes xs → Threes ys
    → FloorPost ε before obs φ a (entries_of xs) → FloorPost ε before obs φ b (entries_of ys) → (a ≡ b) × (xs ≡ ys)

pub record Promises : Type 0 where
  pub demand3 : Demand3
  pub one_floor : OneFloor
  pub readings : StreamReadings
