-- `greenwald_khanna_sound::ends_exact` meets its contract: each end says what its rule says.
-- Assumes nothing.
use Rattle.std.proofs.Common.{rules}
use Rattle.greenwald_khanna_sound.proofs.Soundness.{FirstSays, LastSays, first_says, last_says}
use Rattle.greenwald_khanna_sound.proofs.ends_exact.Goals as goal

pub returns-then-is_none_or : goal.returns-then-is_none_or
returns-then-is_none_or g c =
    let a : FirstSays g.T.Slot.entry c.args.list.now c.is_none_or.result = search rules in
    let b : LastSays g.T.Slot.entry c.args.list.now c.is_none_or-then-is_none_or.result = search rules in
    let first = first_says g.T.Slot.entry _ _ a in
    rw (← first, c.if-is_none_or.true) (last_says g.T.Slot.entry _ _ b)

pub returns-else-is_none_or : goal.returns-else-is_none_or
returns-else-is_none_or g c =
    let a : FirstSays g.T.Slot.entry c.args.list.now c.is_none_or.result = search rules in
    rw (← first_says g.T.Slot.entry _ _ a, c.if-is_none_or.false)
