-- Explaining by counting: the ranks that a value holds in sorted X are those above `below X v`, up to `upto X v`.
-- Assumes nothing.
use mathlib.Core.Path.{◌≡◌}
use Prim.Native.Nat.{ℕ, ◌+◌, ◌≤◌, ◌<◌}
use mathlib.Core.List.{List, [], ◌∷◌}
use lib.ListN.{length}
use Rattle.entries.specs.declared.Entry.{Entry}
use Rattle.entries.specs.Ranks.{below, upto}
use Rattle.greenwald_khanna_theory.specs.State.{State}

-- the value v of an entry whose g add up to r, with its delta d: it occurs, and the ranks that it holds meet those from r to r + d
pub record Explained (X : List ℕ) (r v d : ℕ) : Type 0 where
  pub low : r ≤ upto X v
  pub high : below X v < r + d
  pub occurs : below X v < upto X v

-- each entry, where s is the sum of the g before the list
abbrev pub ExplainedFrom : List ℕ → ℕ → List Entry → Type 0
ExplainedFrom X s [] = Unit {0}
ExplainedFrom X s (e ∷ es) = Explained X (s + e.g) e.v e.delta × ExplainedFrom X (s + e.g) es

pub record Counted (X : List ℕ) (s : State) : Type 0 where
  pub members : length X ≡ s.n
  pub entries : ExplainedFrom X 0 s.entries
