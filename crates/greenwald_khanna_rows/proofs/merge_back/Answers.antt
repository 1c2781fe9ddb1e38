-- `greenwald_khanna_rows::merge_back` meets its contract: `MergedFrom` holds after each turn.
-- Assumes nothing.
use Rattle.std.proofs.Common.{map, arith}
use Rattle.std.proofs.lemmas.List.{length-map}
use Rattle.greenwald_khanna_rows.proofs.Passes.{start, turned}
use Rattle.greenwald_khanna_rows.proofs.merge_back.Goals as goal

pub loop-i-init : goal.loop-i-init
loop-i-init g c =
    let n = length-map c.args.list.now g.T.Slot.entry in
    rw (← n) (start c.args.p (map g.T.Slot.entry c.args.list.now) (omega (arith, n)))

pub loop-i-preserved : goal.loop-i-preserved
loop-i-preserved g c = turned c.args.p _ _ c.loop-i.i c.loop-i.w _ _ (omega arith) c.loop-i.invariant c.turn-w.ensures
