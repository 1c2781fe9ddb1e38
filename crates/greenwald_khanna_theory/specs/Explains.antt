-- Which lists of observations explain a summary.
-- Assumes nothing: these are definitions.
use Rattle.std.specs.Prelude.{◌≡◌, ℕ, ◌+◌, ◌≤◌, List, [], ◌∷◌, length}
use Rattle.entries.specs.declared.Entry.{Entry}
use Rattle.entries.specs.Ranks.{StandsAt}
use Rattle.greenwald_khanna_theory.specs.State.{State}

-- once X is sorted, v stands at some rank from r to r + d
pub record StandsNear (X : List ℕ) (r v d : ℕ) : Type 0 where
  pub rank : ℕ
  pub from : r ≤ rank
  pub to : rank ≤ r + d
  pub stands : StandsAt X rank v

-- each entry's value stands at some rank from the sum of g up to it to that sum plus its delta; s is the sum before the list
abbrev pub StandFrom : List ℕ → ℕ → List Entry → Type 0
StandFrom X s [] = Unit {0}
StandFrom X s (e ∷ es) = StandsNear X (s + e.g) e.v e.delta × StandFrom X (s + e.g) es

-- X has n members, and each entry stands so
pub record Explains (X : List ℕ) (s : State) : Type 0 where
  pub members : length X ≡ s.n
  pub entries : StandFrom X 0 s.entries
