-- `ckms_rows::lists::blocks_sound` meets its contract: the test of each length and of their sum is what the definition asks of them one by one.
-- Assumes nothing.
use Rattle.std.proofs.Common.{◌≡◌, ap, ◌&&◌, leb, eqb, zero-add, rules, tests, sum_by}
use Rattle.std.proofs.lemmas.Iterator.{YieldsList-from_slice}
use Rattle.std.proofs.lemmas.Iterator.Search.{all_from_yields_List}
use Rattle.ckms_rows.proofs.Sounds.{blocks_cut}
use Rattle.ckms_rows.proofs.lists.blocks_sound.Goals as goal

pub returns-then-all : goal.returns-then-all
returns-then-all c =
    let all = all_from_yields_List (λ a. leb 1 a && leb a c.args.size) _ _ c.all.result c.all.ensures.ran (YieldsList-from_slice c.args.lens.now cc) (λ x b q k. search (rules, tests)) in
    let summed : c.sum.result ≡ sum_by (λ a. a) c.args.lens.now = search rules in
    rw (blocks_cut c.args.size c.args.held 0 c.args.lens.now, ← all, c.if-all.true, ← summed, zero-add) (ap (eqb c.sum.result) c.from.ensures)

pub returns-else-all : goal.returns-else-all
returns-else-all c =
    let all = all_from_yields_List (λ a. leb 1 a && leb a c.args.size) _ _ c.all.result c.all.ensures.ran (YieldsList-from_slice c.args.lens.now cc) (λ x b q k. search (rules, tests)) in
    rw (blocks_cut c.args.size c.args.held 0 c.args.lens.now, ← all, c.if-all.false)
