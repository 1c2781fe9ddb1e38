-- `ckms_rows::lists::entries_sound` meets its contract: what is left to test decides as the whole does.
-- Assumes nothing.
use Rattle.std.proofs.Common.{arith}
use Rattle.std.proofs.lemmas.Bool.Decides.{nat_tests}
use Rattle.ckms_rows.proofs.Sounds.{entries_turn, entries_done}
use Rattle.ckms_rows.proofs.lists.entries_sound.Goals as goal

pub returns-then-e-low : goal.returns-then-e-low
returns-then-e-low c =
    let t = entries_turn c.args.most c.args.n c.loop-row.low c.loop-row.sum c.args.rows.now c.loop-row.row-index c.loop-row-test.true in
    grind (arith, nat_tests)

pub loop-row-preserved : goal.loop-row-preserved
loop-row-preserved c =
    let t = entries_turn c.args.most c.args.n c.loop-row.low c.loop-row.sum c.args.rows.now c.loop-row.row-index c.loop-row-test.true in
    grind (arith, nat_tests)

pub returns : goal.returns
returns c =
    let d = entries_done c.args.most c.args.n c.loop-row.low c.loop-row.sum c.args.rows.now c.loop-row.row-index c.loop-row-test.false in
    cc
