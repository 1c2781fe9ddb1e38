-- Where a value goes, told by the first and the last value. Assumes nothing.
use mathlib.Core.Path.{◌≡◌, ap}
use mathlib.Core.Logic.{◌↔◌}
use mathlib.Core.List.{List, ◌∷◌}
use Prim.Native.Nat.{ℕ, suc, ◌+◌, ◌-◌, ◌<◌}
use native.Mathlib.Omega.{arith}
use lib.ListN.{length, get_or, take, length-map}
use lib.Seq.{take_all}
use Rattle.entries.specs.declared.Entry.{Entry}
use Rattle.entries.specs.Entry.{values}
use Rattle.entries.specs.Ranks.{Rising, below}
use Rattle.entries.proofs.Choose.{by_order}
use Rattle.entries.proofs.Counting.{below_one, below_none}
use Rattle.entries.proofs.Places.{all_smaller, below_before}
use Rattle.entries.proofs.Sorting.{none_below}
use Rattle.ckms_store.specs.Promises.{EndsByValue}

-- all of a sorted list are smaller exactly when its last is
all_below : (x v k : ℕ) (vs : List ℕ) → length vs ≡ k → Rising 0 (v ∷ vs) → (below (v ∷ vs) x ≡ suc k) ↔ (get_or (v ∷ vs) k 0 < x)
all_below x v k vs l r = (λ e. below_before (v ∷ vs) x r k (omega arith), back)
  where
    back : get_or (v ∷ vs) k 0 < x → below (v ∷ vs) x ≡ suc k
    back h =
        let t : take (k + 1) (v ∷ vs) ≡ v ∷ vs = take_all (k + 1) (v ∷ vs) (omega arith) in
        omega (arith, all_smaller 0 (v ∷ vs) k x (omega arith) r h, ap (λ (t : List ℕ). below t x) t)

pub ends_by_value : EndsByValue
unfolding EndsByValue
ends_by_value x e es ls r =
    let q : suc (length es) - 1 ≡ length es = omega arith in (
      (
        λ z. by_order e.v x (λ h. absurd (omega (arith, below_one e.v x h))) (λ h. h),
        λ h. omega (arith, below_none e.v x h, none_below e.v (values es) x r.1 h),
      ),
      rw q (all_below x e.v (length es) (values es) (length-map es (λ (e : Entry). e.v)) r),
    )
