-- `ckms_blocks::seek` meets its contract: the smaller entries are those before the block, and those that a search in it counts.
-- Assumes nothing.
use Rattle.std.proofs.Common.{arith}
use Rattle.std.proofs.lemmas.Bool.Decides.{nat_tests}
use Rattle.entries.specs.Entry.{entries_of}
use Rattle.entries.proofs.Parts.{part_sorted}
use Rattle.ckms_blocks.proofs.Skips.{seek_none, seek_found}
use Rattle.ckms_blocks.proofs.seek.Goals as goal

pub returns-then-is_empty : goal.returns-then-is_empty
returns-then-is_empty c = seek_none c.args.x (entries_of c.args.rows.now) c.args.lens.now c.requires (grind (arith, nat_tests))

pub smaller-inner-requires : goal.smaller-inner-requires
smaller-inner-requires c = part_sorted c.args.rows.now c.skip-block.result.start _ c.requires.sorted

pub overflow_add-result : goal.overflow_add-result
overflow_add-result c =
    omega (arith, (seek_found _ _ _ _ _ c.requires c.skip-block.ensures c.smaller-inner.ensures).1)

pub overflow_add-result-2 : goal.overflow_add-result-2
overflow_add-result-2 c =
    omega (arith, (seek_found _ _ _ _ _ c.requires c.skip-block.ensures c.smaller-inner.ensures).2)

pub overflow_cast-result : goal.overflow_cast-result
overflow_cast-result c =
    omega (arith, (seek_found _ _ _ _ _ c.requires c.skip-block.ensures c.smaller-inner.ensures).2)

pub returns : goal.returns
returns c = (seek_found _ _ _ _ _ c.requires c.skip-block.ensures c.smaller-inner.ensures).0
