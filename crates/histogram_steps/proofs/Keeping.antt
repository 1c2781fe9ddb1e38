-- An opened histogram is sound, and an insert that is taken leaves a sound one.
-- Assumes nothing.
use mathlib.Core.Path.{◌≡◌, refl}
use Prim.Native.Nat.{ℕ, suc, ◌≤◌, ◌<◌}
use mathlib.Core.List.{List}
use native.Mathlib.Omega.{arith}
use lib.ListN.{length, replicate}
use Rattle.entries.specs.Ranks.{Rising}
use Rattle.entries.proofs.Totals.{total_zeros, total_set}
use Rattle.histogram_rows.specs.Bounds.{bin_of}
use Rattle.histogram_rows.specs.Bins.{counted}
use Rattle.histogram_rows.proofs.Binning.{bin_fits}
use Rattle.std.proofs.Common.{Option, Some, None}
use Rattle.histogram_steps.specs.declared.Histogram.{Histogram}
use Rattle.histogram_steps.specs.Bounds.{bounds}
use Rattle.histogram_steps.specs.State.{observations, largest, fresh, plus, taken}
use Rattle.histogram_steps.specs.Sound.{SumFits, Sound}

pub fresh_sound : (bs : List ℕ) (n : ℕ) → 1 ≤ length bs → length bs ≤ bounds → Rising 0 bs → Sound fresh bs (replicate n 0)
fresh_sound bs n a b r = record {
  some_bounds = a;
  few_bounds = b;
  never_fall = r;
  few = omega arith;
  adds_up = total_zeros n;
  sum_fits = refl;
}

plus_fits : (s : Option ℕ) (n v : ℕ) → v ≤ largest → SumFits s n → SumFits (plus s v) (suc n)
plus_fits None n v h f = (omega arith, omega arith)
plus_fits (Some x) n v h f = (omega arith, omega arith)

pub taken_sound : (h : Histogram) (bs cs : List ℕ) (v : ℕ) → length cs ≡ suc (length bs) → Sound h bs cs → h.count < observations → v ≤ largest
    → Sound (taken h v) bs (counted bs cs v)
taken_sound h bs cs v e s n l = record {
  some_bounds = s.some_bounds;
  few_bounds = s.few_bounds;
  never_fall = s.never_fall;
  few = omega arith;
  adds_up = omega (arith, total_set (bin_of bs v) cs (bin_fits bs cs v e), s.adds_up);
  sum_fits = plus_fits h.sum h.count v l s.sum_fits;
}
