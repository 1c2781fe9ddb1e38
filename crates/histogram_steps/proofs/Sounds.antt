-- The soundness test says what the rules say.
-- Assumes nothing.
use mathlib.Core.Path.{◌≡◌}
use Prim.Native.Nat.{ℕ, ◌*◌, ◌≤◌}
use mathlib.Core.Bool.{Bool, true, ◌&&◌, and-eq-true_iff}
use mathlib.Core.List.{List}
use borrow.Author.Tests.{le-leb, leb-true, eqb-true, eq-eqb}
use lib.Dec.{leb, eqb}
use lib.ListN.{length}
use Rattle.entries.specs.Order.{rising}
use Rattle.entries.specs.Ranks.{Rising}
use Rattle.entries.specs.Total.{total}
use Rattle.entries.proofs.Order.{rising_means, rising_holds}
use Rattle.std.proofs.Common.{Option, Some, None}
use Rattle.histogram_steps.specs.declared.Histogram.{Histogram}
use Rattle.histogram_steps.specs.Bounds.{bounds, allowed}
use Rattle.histogram_steps.specs.State.{observations, largest}
use Rattle.histogram_steps.specs.Sound.{SumFits, Sound, sum_sound, sound}

sum_means : (s : Option ℕ) (n : ℕ) → sum_sound s n ≡ true → SumFits s n
sum_means None n t = eqb-true n 0 t
sum_means (Some x) n t =
    let a = (and-eq-true_iff (leb 1 n) (leb x (n * largest))).0 t in (leb-true 1 n a.0, leb-true x (n * largest) a.1)

sum_holds : (s : Option ℕ) (n : ℕ) → SumFits s n → sum_sound s n ≡ true
sum_holds None n f = eq-eqb n 0 f
sum_holds (Some x) n f = rw (le-leb 1 n f.0) (le-leb x (n * largest) f.1)

-- the bounds
pub allowed_means : (bs : List ℕ) → allowed bs ≡ true → (1 ≤ length bs) × (length bs ≤ bounds) × Rising 0 bs
allowed_means bs t =
    let a = (and-eq-true_iff (leb 1 (length bs)) (leb (length bs) bounds && rising 0 bs)).0 t in
    let b = (and-eq-true_iff (leb (length bs) bounds) (rising 0 bs)).0 a.1 in
    (leb-true 1 (length bs) a.0, leb-true (length bs) bounds b.0, rising_means 0 bs b.1)

-- the whole test, and the rules
module _ (h : Histogram) (bs cs : List ℕ) where
  pub sound_means : sound h bs cs ≡ true → Sound h bs cs
  sound_means t =
      let fit : Bool = sum_sound h.sum h.count in
      let a = (and-eq-true_iff (allowed bs) (leb h.count observations && (eqb (total cs) h.count && fit))).0 t in
      let b = (and-eq-true_iff (leb h.count observations) (eqb (total cs) h.count && fit)).0 a.1 in
      let d = (and-eq-true_iff (eqb (total cs) h.count) fit).0 b.1 in
      let e = allowed_means bs a.0 in
      record {
        some_bounds = e.0;
        few_bounds = e.1;
        never_fall = e.2;
        few = leb-true h.count observations b.0;
        adds_up = eqb-true (total cs) h.count d.0;
        sum_fits = sum_means h.sum h.count d.1;
      }

  pub sound_holds : Sound h bs cs → sound h bs cs ≡ true
  sound_holds s =
      rw (
        le-leb 1 (length bs) s.some_bounds,
        le-leb (length bs) bounds s.few_bounds,
        rising_holds 0 bs s.never_fall,
        le-leb h.count observations s.few,
        eq-eqb (total cs) h.count s.adds_up,
      )
      (sum_holds h.sum h.count s.sum_fits)
