-- `ckms_rows::walk::walk` meets its contract: the walk from here on answers as the whole does.
-- Assumes nothing.
use native.Mathlib.Omega.{arith}
use Rattle.ckms_rows.proofs.Walks.{walk_none, rank_small, walk_stop, walk_more, walk_end}
use Rattle.ckms_rows.proofs.walk.walk.Goals as goal

pub loop-row-init : goal.loop-row-init
loop-row-init c =
    let a = c.args in
    let z = walk_none a.scale a.limit a.rows.now (omega arith) in
    rw (c.from-rank.ensures, c.entry-before.ensures) (omega (arith, rank_small _ _ _ _ _ _ _ z), z)

pub returns-then-limit-scale : goal.returns-then-limit-scale
returns-then-limit-scale c =
    let e = rw (c.from-g.ensures, c.from.ensures, c.entry-e.ensures) at c.if-limit-scale.true in
    walk_stop _ _ _ _ c.loop-row.row-index _ _ c.loop-row.invariant.1 c.loop-row-test.true e

pub loop-row-preserved : goal.loop-row-preserved
loop-row-preserved c =
    let e = rw (c.from-g.ensures, c.from.ensures, c.entry-e.ensures) at c.if-limit-scale.false in
    let z = walk_more _ _ _ _ c.loop-row.row-index _ _ c.loop-row.invariant.1 c.loop-row-test.true e in
    rw (c.from-g.ensures, c.entry-e.ensures) (omega (arith, rank_small _ _ _ _ _ _ _ z), z)

pub returns : goal.returns
returns c = walk_end _ _ _ _ c.loop-row.row-index _ _ c.loop-row.invariant.1 c.loop-row-test.false
