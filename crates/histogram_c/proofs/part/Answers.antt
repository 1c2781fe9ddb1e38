-- `histogram_c::part` meets its contract: the part begins behind the bins with bound ≤ lower.
-- Assumes nothing.
use Rattle.histogram_c.proofs.Parts.{bins_refused, fine, bins_given}
use Rattle.histogram_c.proofs.part.Goals as goal

pub ending-requires : goal.ending-requires
ending-requires c =
    (fine c.args.histogram c.args.bounds.now c.args.counts.now c.in-Ok.ensures.0).sound_is.never_fall

pub returns-in-Ok : goal.returns-in-Ok
returns-in-Ok c =
    let a = c.args in
    bins_given a.histogram a.bounds.now a.counts.now a.lower a.upper c.in-Ok.bins.now c.ending.result c.in-Ok.ensures.0 c.in-Ok.ensures.1 c.ending.ensures.0

pub returns-in-Err : goal.returns-in-Err
returns-in-Err c =
    let a = c.args in
    bins_refused a.histogram a.bounds.now a.counts.now a.lower a.upper c.in-Err.why c.number.ensures c.in-Err.ensures.0
