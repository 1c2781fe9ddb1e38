-- `histogram_rows::counts::Bins::total_above` meets its contract: the bins above a bound are the last ones.
-- Assumes nothing.
use mathlib.Core.Path.{sym, ap, ◌∙◌}
use Prim.Native.Nat.{ℕ}
use native.Mathlib.Omega.{arith}
use lib.ListN.{drop}
use Rattle.entries.specs.Total.{total}
use Rattle.entries.proofs.Places.{part_end}
use Rattle.histogram_rows.proofs.Choosing.{chosen_above}
use Rattle.histogram_rows.proofs.Splitting.{above_le_all}
use Rattle.histogram_rows.proofs.counts.Bins.total_above.Goals as goal

pub returns : goal.returns
returns c =
    let e =
    c.total.ensures
    ∙ ap total (part_end c.args.self.counts.now c.ending-start.result)
    ∙ ap (λ (k : ℕ). total (drop k c.args.self.counts.now)) c.ending-start.ensures.0
    ∙ ap total (sym (chosen_above c.args.lower 0 c.args.self.bounds.now c.args.self.counts.now c.args.self.binned.never_fall c.args.self.binned.long)) in
    (e, omega (arith, e, above_le_all c.args.self.bounds.now c.args.self.counts.now c.args.lower))
