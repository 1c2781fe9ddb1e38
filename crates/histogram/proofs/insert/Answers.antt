-- `histogram::insert` meets its contract: a refusal writes nothing, and the count of the value's bin grows by one.
-- Assumes nothing.
use mathlib.Core.Path.{ap, ◌∙◌}
use native.Mathlib.Omega.{arith}
use Rattle.histogram_steps.specs.State.{taken}
use Rattle.histogram_steps.proofs.Standings.{ready, total_few, binned}
use Rattle.histogram.proofs.Cases.{taken_insert}
use Rattle.histogram.proofs.insert.Goals as goal

pub raise-requires : goal.raise-requires
raise-requires c =
    let s = ready c.args.histogram c.args.bounds.now c.args.counts.now c.standing.ensures c.in_ok-standing.was in
    (binned s, omega (arith, total_few s))

pub returns : goal.returns
returns c =
    let s = ready c.args.histogram c.args.bounds.now c.args.counts.now c.standing.ensures c.in_ok-standing.was in
    taken_insert s c.args.v (omega arith) (omega arith)
    (c.taken.ensures ∙ ap (taken c.args.histogram) c.from.ensures)
    c.raise.ensures
