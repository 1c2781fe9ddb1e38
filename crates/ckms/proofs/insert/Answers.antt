-- `ckms::insert` meets its contract: each refusal in its case, or one observation more.
-- Assumes nothing.
use native.Mathlib.Omega.{arith}
use lib.ListN.{length-map}
use Rattle.std.proofs.Common.{rules}
use Rattle.entries.specs.Entry.{entry_of, entries_of}
use Rattle.ckms.proofs.Calls.{insert_untested, insert_count, insert_full, insert_taken}
use Rattle.ckms.proofs.Tests.{ready}
use Rattle.ckms.proofs.insert.Goals as goal

pub returns-in_err-check : goal.returns-in_err-check
returns-in_err-check c = insert_untested c.args.state (entries_of c.args.rows.now) c.args.lens.now c.args.v _ _ (search rules) c.in_err-check.ensures

pub returns-then-state-ge-OBSERVATIONS : goal.returns-then-state-ge-OBSERVATIONS
returns-then-state-ge-OBSERVATIONS c =
    let r = ready c.args.state (entries_of c.args.rows.now) c.args.lens.now c.in_ok-check.ensures in
    insert_count c.args.state (entries_of c.args.rows.now) c.args.lens.now c.args.v r (omega arith)

pub returns-then-rows-state : goal.returns-then-rows-state
returns-then-rows-state c =
    let r = ready c.args.state (entries_of c.args.rows.now) c.args.lens.now c.in_ok-check.ensures in
    insert_full c.args.state (entries_of c.args.rows.now) c.args.lens.now c.args.v r (omega arith) (omega (arith, length-map c.args.rows.now entry_of))

pub take-requires : goal.take-requires
take-requires c = (ready c.args.state (entries_of c.args.rows.now) c.args.lens.now c.in_ok-check.ensures, omega arith, omega arith)

pub returns : goal.returns
returns c =
    let r = ready c.args.state (entries_of c.args.rows.now) c.args.lens.now c.in_ok-check.ensures in
    insert_taken c.args.state (entries_of c.args.rows.now) c.args.lens.now c.args.v r (omega arith) (omega (arith, length-map c.args.rows.now entry_of)) c.take.result (entries_of c.take.new.rows) c.take.new.lens c.take.ensures
