-- `Mean::next` meets its contract: the result is finite by `next_finite` of `Steps`, and in range by `next_in`.
-- Assumes nothing.
use mathlib.Core.Path.{refl, sym, subst}
use Prim.Native.Nat.{ℕ, ◌≤◌}
use native.Mathlib.Omega.{arith}
use lib.Dec.{T}
use lib.Ieee.{binary64, fits}
use Rattle.mean.proofs.Steps.{next_finite, next_in}
use Rattle.mean.proofs.Mean.next.Goals as goal

at_least_one : (n : ℕ) → 2 ≤ n → 1 ≤ n
at_least_one n h = omega arith

pub returns : goal.returns
returns c =
    let v = c.args.v in
    let n = c.args.n in
    let s = c.args.self.value in
    -- what owning the struct tells: the format holds its field
    let held : T (fits binary64 s) = subst T (sym c.well_formed.0.1.1.0.1) tt in
    record {
      answered = refl;
      stays_finite = λ one h. next_finite v n c.ranges.v.fits c.ranges.n.fits one s held h;
      stays_in_range = λ two h. next_in v n c.ranges.v.fits c.ranges.n.fits (at_least_one n two) two s held h;
    }
