-- `ckms_store_grow::grow` meets its contract: an insert leaves what a compression asks, and the two are one step.
-- Assumes nothing.
use native.Mathlib.Omega.{arith}
use lib.ListN.{length-map}
use Rattle.entries.specs.Entry.{entry_of, entries_of}
use Rattle.ckms_store_grow.proofs.Grows.{grown_tidy}
use Rattle.ckms_store_grow.proofs.grow.Goals as goal

pub returns-then-inserts-eq0 : goal.returns-then-inserts-eq0
returns-then-inserts-eq0 c =
    grown_tidy c.args.samples c.put-put.result c.tidy.result (entries_of c.args.rows.now) (entries_of c.put-put.new.rows)
    (entries_of c.tidy.new.rows) c.args.lens.now c.put-put.new.lens c.tidy.new.lens c.args.v
    (omega (arith, c.requires.2, length-map c.args.rows.now entry_of)) c.args.inserts (omega arith) c.put-put.ensures
    c.tidy.ensures
