-- An element put into a list: the sum of the g, and the order of values.
-- Assumes nothing.
use mathlib.Core.Path.{◌≡◌, refl}
use Prim.Native.Nat.{ℕ, zero, suc, ◌+◌, ◌≤◌}
use mathlib.Core.List.{List, [], ◌∷◌}
use native.Mathlib.Omega.{arith}
use Rattle.entries.specs.declared.Entry.{Entry}
use Rattle.entries.specs.Entry.{sum_g}
use Rattle.entries.specs.Lists.{put_at}
use Rattle.entries.specs.Ranks.{Rising, below}
use Rattle.entries.proofs.Choose.{by_order}
use Rattle.entries.proofs.Counting.{below_one, below_none}
use Rattle.entries.proofs.Sorting.{none_below}

pub sum_put : (k : ℕ) (e : Entry) (es : List Entry) → sum_g (put_at k e es) ≡ e.g + sum_g es
sum_put zero e es = refl
sum_put (suc k) e [] = refl
sum_put (suc k) e (f ∷ fs) = omega (arith, sum_put k e fs)

-- x stands behind the smaller ones, and before the others
pub rising_put : (low x : ℕ) (vs : List ℕ) → Rising low vs → low ≤ x → Rising low (put_at (below vs x) x vs)
rising_put low x [] r h = (h, tt)
rising_put low x (v ∷ vs) r h =
    by_order v x
    (λ k. let e : below (v ∷ vs) x ≡ suc (below vs x) = omega (arith, below_one v x k) in rw e (r.0, rising_put v x vs r.1 (omega arith)))
    (λ k. let e : below (v ∷ vs) x ≡ 0 = omega (arith, below_none v x k, none_below v vs x r.1 k) in rw e (h, (k, r.1)))
