-- `histogram_steps::Histogram::over` meets its contract: where no refusal stands, bounds and counts fit.
-- Assumes nothing.
use Rattle.histogram_steps.proofs.Standings.{ready, binned}
use Rattle.histogram_steps.proofs.Histogram.over.Goals as goal

pub invariant_of-result : goal.invariant_of-result
invariant_of-result c =
    record { binned = binned (ready c.args.self c.args.bounds.now c.args.counts.now c.standing.ensures c.in_ok-standing.was) }
