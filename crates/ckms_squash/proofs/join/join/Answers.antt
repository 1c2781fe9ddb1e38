-- `ckms_squash::join::join` meets its contract: what the joining is to leave stays the same.
-- Assumes nothing.
use mathlib.Core.Path.{◌≡◌, ◌∙◌}
use native.Mathlib.Omega.{arith}
use lib.ListN.{length}
use Rattle.ckms_squash.proofs.Joins.{joining_none, joining_more, joining_done}
use Rattle.ckms_squash.proofs.join.join.Goals as goal

pub loop-i-init : goal.loop-i-init
loop-i-init c = (omega arith, omega arith, joining_none c.args.size c.args.lens.now c.requires)

pub loop-i-preserved : goal.loop-i-preserved
loop-i-preserved c =
    let l = c.loop-i in
    let m = joining_more c.args.size l.w l.i l.lens c.turn-w.result c.turn-w.new.lens (omega arith) (omega arith) (omega arith) c.turn-w.ensures in
    (m.0, m.1, m.2 ∙ l.invariant.2)

pub returns : goal.returns
returns c =
    let l = c.loop-i in
    let e : l.i ≡ length l.lens = omega arith in
    joining_done c.args.size l.w l.lens c.args.lens.now (omega arith) (omega arith) (rw e at l.invariant.2)
