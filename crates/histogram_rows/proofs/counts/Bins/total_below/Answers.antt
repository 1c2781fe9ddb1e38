-- `histogram_rows::counts::Bins::total_below` meets its contract: the bins up to a bound are the first ones.
-- Assumes nothing.
use mathlib.Core.Path.{sym, ap, ◌∙◌}
use Prim.Native.Nat.{ℕ}
use native.Mathlib.Omega.{arith}
use lib.ListN.{take}
use Rattle.entries.specs.Total.{total}
use Rattle.histogram_rows.proofs.Choosing.{chosen_below}
use Rattle.histogram_rows.proofs.Splitting.{below_le_all}
use Rattle.histogram_rows.proofs.counts.Bins.total_below.Goals as goal

pub returns : goal.returns
returns c =
    let e =
    c.total.ensures
    ∙ ap (λ (k : ℕ). total (take k c.args.self.counts.now)) c.ending-end.ensures.0
    ∙ ap total (sym (chosen_below c.args.upper 0 c.args.self.bounds.now c.args.self.counts.now c.args.self.binned.never_fall c.args.self.binned.long)) in
    (e, omega (arith, e, below_le_all c.args.self.bounds.now c.args.self.counts.now c.args.upper))
