-- `products::band` meets its contract: 63 less the leading zeros of p - d + 1 is its logarithm, and past p the band is 0.
-- Assumes nothing.
use mathlib.Core.Path.{sym}
use Prim.Native.Nat.{◌+◌, ◌-◌}
use native.Mathlib.Omega.{arith}
use Rattle.fraction.proofs.Bands.{leading_log2, band_zero}
use Rattle.products.proofs.band.Goals as goal

pub returns-then-p-d : goal.returns-then-p-d
returns-then-p-d c = let a = c.args in sym (band_zero {p = a.p} {d = a.d} (omega arith))

pub returns : goal.returns
returns c =
    let a = c.args in
    rw c.from.ensures (omega (arith, (leading_log2 (a.p - a.d + 1) (omega arith) (omega arith)).0))
