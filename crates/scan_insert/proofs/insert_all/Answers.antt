-- `scan_insert::insert_all` meets its contract: inserting what is left, from where the loop stands, comes to the same end.
-- Assumes nothing.
use Rattle.entries.specs.Entry.{entries_of}
use Rattle.scan_file.specs.Layout.{observation_at}
use Rattle.scan_insert.proofs.Inserting.{ran_on, ran_stopped, ran_done}
use Rattle.scan_insert.proofs.insert_all.Goals as goal

pub returns-in_default : goal.returns-in_default
returns-in_default c =
    ran_stopped (observation_at c.args.bytes.now c.args.layout.fractions) c.args.layout.observations c.loop-i.i _ c.loop-i.stream (entries_of c.loop-i.rows)
    c.loop-i.invariant c.loop-i-test.true c.insert-inserted.result (entries_of c.insert-inserted.new.list) (rw c.observation.ensures at c.insert-inserted.ensures) _
    c.number_in.result c.in_default.is c.number_in.ensures

pub loop-i-preserved : goal.loop-i-preserved
loop-i-preserved c =
    ran_on (observation_at c.args.bytes.now c.args.layout.fractions) c.args.layout.observations c.loop-i.i _ c.loop-i.stream (entries_of c.loop-i.rows)
    c.loop-i.invariant c.loop-i-test.true c.insert-inserted.result (entries_of c.insert-inserted.new.list) (rw c.observation.ensures at c.insert-inserted.ensures) _ c.in-Ok.is

pub returns : goal.returns
returns c =
    ran_done (observation_at c.args.bytes.now c.args.layout.fractions) c.args.layout.observations c.loop-i.i _ c.loop-i.stream (entries_of c.loop-i.rows)
    c.loop-i.invariant c.loop-i-test.false
