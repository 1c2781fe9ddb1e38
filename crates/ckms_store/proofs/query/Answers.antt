-- `ckms_store::query` meets its contract: each refusal in its case, or the walk.
-- Assumes nothing.
use native.Mathlib.Omega.{arith}
use Rattle.std.proofs.Common.{rules}
use Rattle.std.proofs.lemmas.Grind.{common_steps}
use Rattle.entries.specs.Entry.{entries_of}
use Rattle.ckms_store.specs.Answers.{queried}
use Rattle.ckms_store.proofs.Calls.{refused, passed, query_phi, query_empty, query_given, asking}
use Rattle.ckms_store.proofs.query.Goals as goal

pub returns-in_err-check : goal.returns-in_err-check
unfolding queried
returns-in_err-check c = refused c.args.store (entries_of c.args.rows.now) c.args.lens.now _ _ _ (search rules) c.in_err-check.ensures

pub returns-then-not-is_phi : goal.returns-then-not-is_phi
returns-then-not-is_phi c =
    let r = passed c.args.store (entries_of c.args.rows.now) c.args.lens.now c.in_ok-check.ensures in
    query_phi c.args.store (entries_of c.args.rows.now) c.args.lens.now c.args.q r (grind (arith, common_steps))

pub returns-then-store-eq0 : goal.returns-then-store-eq0
returns-then-store-eq0 c =
    let r = passed c.args.store (entries_of c.args.rows.now) c.args.lens.now c.in_ok-check.ensures in
    query_empty c.args.store (entries_of c.args.rows.now) c.args.lens.now c.args.q r (grind (arith, common_steps)) (omega arith)

pub look_up-requires : goal.look_up-requires
look_up-requires c =
    let r = passed c.args.store (entries_of c.args.rows.now) c.args.lens.now c.in_ok-check.ensures in
    asking c.args.store (entries_of c.args.rows.now) c.args.lens.now c.args.q r (grind (arith, common_steps)) c.if-store-eq0.false

pub returns : goal.returns
returns c =
    let r = passed c.args.store (entries_of c.args.rows.now) c.args.lens.now c.in_ok-check.ensures in
    query_given c.args.store (entries_of c.args.rows.now) c.args.lens.now c.args.q r (grind (arith, common_steps)) c.if-store-eq0.false c.look_up.result c.look_up.ensures
