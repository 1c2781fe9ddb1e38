-- `ckms_blocks::skip` meets its contract: the blocks before `at` were skipped.
-- Assumes nothing.
use mathlib.Core.Path.{refl}
use native.Mathlib.Omega.{arith}
use Rattle.ckms_blocks.proofs.Skips.{search_none, search_here, search_last, search_on}
use Rattle.ckms_blocks.proofs.skip.Goals as goal

pub loop-block-init : goal.loop-block-init
loop-block-init c = (refl, search_none c.args.x c.args.rows.now c.args.lens.now c.requires.0 c.requires.1)

pub returns-then-x-entry : goal.returns-then-x-entry
returns-then-x-entry c =
    let z = c.loop-block.invariant in
    search_here _ _ _ c.requires.0 _ _ z.0 z.1 (omega arith) (rw c.entry.ensures at c.if-x-entry.true)

pub overflow_add-at : goal.overflow_add-at
overflow_add-at c =
    let z = c.loop-block.invariant in
    let on = search_on _ _ _ c.requires.0 _ _ z.0 z.1 (omega arith) (rw c.entry.ensures at c.if-x-entry.false) _ c.sum_g.ensures in
    omega (arith, on.low)

pub loop-block-preserved : goal.loop-block-preserved
loop-block-preserved c =
    let z = c.loop-block.invariant in
    (refl, search_on _ _ _ c.requires.0 _ _ z.0 z.1 (omega arith) (rw c.entry.ensures at c.if-x-entry.false) _ c.sum_g.ensures)

pub returns : goal.returns
returns c =
    let z = c.loop-block.invariant in
    search_last _ _ _ c.requires.0 _ _ z.0 z.1 (omega arith)
