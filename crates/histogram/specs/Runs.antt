-- A histogram that is opened and filled by inserts, and what it tells of the observations.
-- Assumes nothing: these are definitions.
use Rattle.std.specs.Prelude.{◌≡◌, ℕ, suc, ◌+◌, ◌≤◌, cond, List, [], ◌∷◌, eqb, length, get_or, replicate, Option, Some, None}
use Rattle.entries.specs.Ranks.{upto, Member}
use Rattle.entries.specs.Total.{total}
use Rattle.histogram_rows.specs.declared.Bound.TheVariants.{Finite}
use Rattle.histogram_rows.specs.Bounds.{bin_of}
use Rattle.histogram_rows.specs.Bins.{total_below, counted}
use Rattle.histogram_steps.specs.declared.Histogram.{Histogram}
use Rattle.histogram_steps.specs.State.{largest, fresh, taken}
use Rattle.histogram_steps.specs.Sound.{Sound}
use Rattle.histogram_steps.specs.Standing.{left}
use Rattle.histogram.specs.Answers.{insert_standing}

-- what a caller holds between two calls, beside the bounds
pub record Held : Type 0 where
  pub state : Histogram
  pub counts : List ℕ

-- after opening
abbrev pub opened : List ℕ → Held
opened bs = record { state = fresh; counts = replicate (suc (length bs)) 0 }

-- after an insert, which may be refused
abbrev pub after_insert : List ℕ → Held → ℕ → Held
after_insert bs s v =
    left (insert_standing s.state bs s.counts) (record { state = taken s.state v; counts = counted bs s.counts v }) s

-- after an insert of each observation
unfoldable pub filled : List ℕ → Held → List ℕ → Held
filled bs s [] = s
filled bs s (v ∷ vs) = filled bs (after_insert bs s v) vs

-- each is a u32
abbrev pub Words : List ℕ → Type 0
Words [] = Unit {0}
Words (x ∷ xs) = (x ≤ largest) × Words xs

-- the sum of observations: none where there are none
abbrev pub sum_of : List ℕ → Option ℕ
sum_of [] = None
sum_of (x ∷ xs) = Some (total (x ∷ xs))

-- how many of X fall into bin k
abbrev pub in_bin : List ℕ → List ℕ → ℕ → ℕ
in_bin bs [] k = 0
in_bin bs (x ∷ xs) k = cond (eqb (bin_of bs x) k) 1 0 + in_bin bs xs k

-- what a histogram of the observations X tells: it counts and adds them, each bin holds its own, and a bound has below it what is at most it
pub record Tells (bs X : List ℕ) (s : Held) : Type 0 where
  pub fits : length s.counts ≡ suc (length bs)
  pub sound : Sound s.state bs s.counts
  pub count : s.state.count ≡ length X
  pub sum : s.state.sum ≡ sum_of X
  pub bins : (k : ℕ) → get_or s.counts k 0 ≡ in_bin bs X k
  pub below : (u : ℕ) → Member bs u → total_below bs s.counts (Finite u) ≡ upto X u
