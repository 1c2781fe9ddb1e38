-- `histogram_rows::counts::Bins::between` meets its contract: the bins that are asked for are a part of the counts.
-- Assumes nothing.
use mathlib.Core.Path.{◌≡◌}
use Prim.Native.Nat.{◌-◌}
use native.Mathlib.Omega.{arith}
use Rattle.histogram_rows.proofs.Choosing.{between_handed}
use Rattle.histogram_rows.proofs.counts.Bins.between.Goals as goal

pub returns : goal.returns
returns c =
    let long : c.max.result - c.ending-start.result ≡ c.ending-end.result - c.ending-start.result = omega arith in
    rw long (between_handed c.args.lower c.args.upper c.args.self.binned c.ending-start.result c.ending-end.result
    c.ending-start.ensures.0 c.ending-end.ensures.0)
