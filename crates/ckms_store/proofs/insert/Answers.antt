-- `ckms_store::insert` meets its contract: each refusal in its case, or one observation more.
-- Assumes nothing.
use native.Mathlib.Omega.{arith}
use lib.ListN.{length-map}
use Rattle.std.proofs.Common.{rules}
use Rattle.entries.specs.Entry.{entry_of, entries_of}
use Rattle.ckms_store.proofs.Calls.{passed, insert_untested, insert_count, insert_full, insert_taken}
use Rattle.ckms_store.proofs.insert.Goals as goal

pub returns-in_err-check : goal.returns-in_err-check
returns-in_err-check c = insert_untested c.args.store (entries_of c.args.rows.now) c.args.lens.now c.args.v _ _ (search rules) c.in_err-check.ensures

pub returns-then-store-ge-OBSERVATIONS : goal.returns-then-store-ge-OBSERVATIONS
returns-then-store-ge-OBSERVATIONS c =
    let list = entries_of c.args.rows.now in
    let r = passed c.args.store (entries_of c.args.rows.now) c.args.lens.now c.in_ok-check.ensures in
    insert_count c.args.store list c.args.lens.now c.args.v r (omega arith)

pub returns-then-rows-store : goal.returns-then-rows-store
returns-then-rows-store c =
    let list = entries_of c.args.rows.now in
    let r = passed c.args.store (entries_of c.args.rows.now) c.args.lens.now c.in_ok-check.ensures in
    insert_full c.args.store list c.args.lens.now c.args.v r (omega arith) (omega (arith, length-map c.args.rows.now entry_of))

pub put-requires : goal.put-requires
put-requires c = (passed c.args.store (entries_of c.args.rows.now) c.args.lens.now c.in_ok-check.ensures, omega arith, omega arith)

pub returns : goal.returns
returns c =
    let list = entries_of c.args.rows.now in
    let r = passed c.args.store (entries_of c.args.rows.now) c.args.lens.now c.in_ok-check.ensures in
    insert_taken c.args.store list c.args.lens.now c.args.v r (omega arith) (omega (arith, length-map c.args.rows.now entry_of)) c.put.result (entries_of c.put.new.rows) c.put.new.lens c.put.ensures
