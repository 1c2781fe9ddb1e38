-- `CKMS::take` meets its contract: the counter, the mean and the store after the insert make the new state, and it is sound.
-- Assumes nothing.
use native.Mathlib.Omega.{arith}
use Rattle.entries.specs.Entry.{entries_of}
use Rattle.ckms_steps.proofs.Takes.{take_post}
use Rattle.ckms_steps.proofs.CKMS.take.Goals as goal

pub returns : goal.returns
returns c =
    take_post c.args.self c.samples.result c.grow-samples.result c.count_on-inserts.result c.args.v _ c.cma_after-cma.result (entries_of c.args.rows.now) (entries_of c.grow-samples.new.rows) c.args.lens.now c.grow-samples.new.lens
    c.samples.ensures c.count_on-inserts.ensures (omega arith) c.cma_after-cma.ensures c.requires.0.sound c.grow-samples.ensures
