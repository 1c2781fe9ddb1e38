-- `ckms_blocks::grow` meets its contract: no block yet, one that has room, or one that is full.
-- Assumes nothing.
use native.Mathlib.Omega.{arith}
use Rattle.ckms_blocks.proofs.Grows.{grow_first, grow_one, grow_split}
use Rattle.ckms_blocks.proofs.grow.Goals as goal

pub returns-then-blocks-eq0 : goal.returns-then-blocks-eq0
returns-then-blocks-eq0 c =
    grow_first c.args.size c.args.blocks c.args.block c.args.lens.now (omega arith) (omega arith)

pub returns-then-lens-block : goal.returns-then-lens-block
returns-then-lens-block c =
    grow_one c.args.size c.args.blocks c.args.block c.args.lens.now (omega arith) (omega arith) (omega arith)

pub returns : goal.returns
returns c =
    grow_split c.args.size c.args.blocks c.args.block c.args.lens.now (omega arith) (omega arith) (omega arith) c.insert_at.new.list c.insert_at.ensures
