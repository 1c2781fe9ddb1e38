-- `greenwald_khanna_walk::look_up` meets its contract: before each place the walk from there gives what the whole gives.
-- Assumes nothing.
use Rattle.std.proofs.Common.{arith}
use Rattle.greenwald_khanna_walk.proofs.Walks.{begin, stop, go, finish}
use Rattle.greenwald_khanna_walk.proofs.look_up.Goals as goal

pub loop-place-init : goal.loop-place-init
loop-place-init g c =
    let b = begin g.T.Slot.entry c.args.limit c.args.list.now _ _ (omega arith) c.index-list-0.is c.entry-first.ensures in
    (omega arith, cc)

pub returns-then-limit-reached : goal.returns-then-limit-reached
returns-then-limit-reached g c =
    stop g.T.Slot.entry c.args.limit _ _ _ _ _ c.loop-place.invariant.1 _ _ c.loop-place-test.true c.place-item.is c.entry-e.ensures (omega arith)

pub loop-place-preserved : goal.loop-place-preserved
loop-place-preserved g c =
    let on = go g.T.Slot.entry c.args.limit _ _ _ _ _ c.loop-place.invariant.1 _ _ c.loop-place-test.true c.place-item.is c.entry-e.ensures (omega arith) in
    (omega arith, cc)

pub returns : goal.returns
returns g c = finish g.T.Slot.entry c.args.limit _ c.loop-place.place-index _ _ _ c.loop-place.invariant.1 (omega arith)
