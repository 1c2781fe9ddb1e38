-- What a quantile's answer owes: demand 3's range of ranks.
-- Assumes nothing: these are definitions.
use Rattle.std.specs.Prelude.{ℕ, ◌+◌, ◌-◌, ◌≤◌, max, List}
use Rattle.entries.specs.Ranks.{Member, StandsAt}

-- v is one of X and, among all of X sorted, stands at some rank from max(1, r - e - 1) to max(1, r + e)
pub record WithinRanks (X : List ℕ) (r e v : ℕ) : Type 0 where
  pub observed : Member X v
  pub rank : ℕ
  pub from : max 1 (r - e - 1) ≤ rank
  pub to : rank ≤ max 1 (r + e)
  pub stands : StandsAt X rank v
