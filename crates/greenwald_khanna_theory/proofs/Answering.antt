-- What the look-up answers, of a summary that is sound and explained.
-- Assumes nothing.
use mathlib.Core.Path.{◌≡◌, refl}
use Prim.Native.Nat.{ℕ, ◌+◌, ◌-◌, ◌≤◌, ◌<◌, max}
use mathlib.Core.List.{List, [], ◌∷◌}
use mathlib.Core.Option.{some}
use native.Mathlib.Nat.{zero-add}
use native.Mathlib.Omega.{arith}
use lib.ListN.{length}
use Rattle.entries.proofs.Choose.{lt-cases}
use Rattle.entries.specs.Ranks.{below, upto}
use Rattle.entries.specs.declared.Entry.{Entry}
use Rattle.entries.specs.Entry.{sum_g}
use Rattle.greenwald_khanna_theory.specs.Walk.{walk, look_up}
use Rattle.greenwald_khanna_theory.proofs.Rules.{Each, Entries}
use Rattle.greenwald_khanna_theory.proofs.Counts.{Explained, ExplainedFrom}

-- by counting: v occurs, some rank of it is at least `low`, and some rank of it is at most `high`, or is 1
pub record Near (X : List ℕ) (low high v : ℕ) : Type 0 where
  pub occurs : below X v < upto X v
  pub reaches : low ≤ upto X v
  pub within : below X v < max 1 high

-- The walk. `limit` is r + e; an entry that passes it has s + p + 1 above it, so s, the least rank of the entry before, is at least limit - p.
walk_near : (X : List ℕ) (p low limit s pv : ℕ) (es : List Entry) → low ≤ limit - p → low ≤ length X
    → Each p es → s + sum_g es ≡ length X → ExplainedFrom X s es
    → s ≤ upto X pv → below X pv < upto X pv → below X pv < max 1 limit
    → Near X low limit (walk limit s pv es)
unfolding walk
walk_near X p low limit s pv [] hl hn c tot k u o w = omega arith
walk_near X p low limit s pv (e ∷ es) hl hn c tot k u o w =
    lt-cases (Near X low limit) limit (s + e.g + e.delta)
    (λ h. omega arith)
    (λ h. walk_near X p low limit (s + e.g) e.v es hl hn c.2 (omega arith) k.1 k.0.low k.0.occurs (omega arith))

-- the answer of a look-up that is not empty
pub look_up_near : (X : List ℕ) (p n low limit : ℕ) (es : List Entry) → Entries p n es → length X ≡ n → ExplainedFrom X 0 es → 1 ≤ n
    → low ≤ limit - p → low ≤ n → (v : ℕ) × (look_up limit es ≡ some v) × Near X low limit v
unfolding look_up
look_up_near X p n low limit [] s len k one hl hn = absurd (omega arith)
look_up_near X p n low limit (f ∷ es) s len k one hl hn = (
  walk limit f.g f.v es,
  refl,
  walk_near X p low limit f.g f.v es hl (omega arith) s.each.2 (omega arith) k'.1
      k'.0.low k'.0.occurs (omega arith),
)
  where
    k' : Explained X f.g f.v f.delta × ExplainedFrom X f.g es
    k' = rw (zero-add f.g) at k
