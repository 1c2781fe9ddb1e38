-- `ckms_squash::squash::pass` meets its contract: the steps so far are a pass up to i.
-- Assumes nothing.
use native.Mathlib.Omega.{arith}
use lib.ListN.{length-map}
use Rattle.entries.specs.Entry.{entry_of, entries_of}
use Rattle.ckms_squash.proofs.Squashes.{pass_more}
use Rattle.ckms_squash.proofs.squash.pass.Goals as goal

pub loop-i-preserved : goal.loop-i-preserved
loop-i-preserved c =
    pass_more c.args.error.fraction c.args.w c.args.from c.loop-i.i (entries_of c.args.rows.now) c.loop-i.w (entries_of c.loop-i.rows) c.turn-w.result (entries_of c.turn-w.new.rows)
    (omega arith) (omega (arith, length-map c.loop-i.rows entry_of)) c.loop-i.invariant c.turn-w.ensures
