-- `histogram_steps::Histogram::open` meets its contract: bounds and counts that pass every test make a fresh histogram.
-- Assumes nothing.
use native.Mathlib.Omega.{arith}
use Rattle.std.proofs.Common.{rules}
use Rattle.histogram_steps.proofs.Openings.{fresh_open}
use Rattle.histogram_steps.proofs.Histogram.open.Goals as goal

pub returns : goal.returns
returns c =
    fresh_open c.args.bounds.now c.args.counts.now c.fill.new.self (search rules) (omega arith) (search rules) (omega arith) (search rules)
