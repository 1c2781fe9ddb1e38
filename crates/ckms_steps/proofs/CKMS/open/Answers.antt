-- `ckms_steps::CKMS::open` meets its contract: it answers as the store does, and a fresh state is sound.
-- Assumes nothing.
use Rattle.std.proofs.Common.{rules}
use Rattle.entries.specs.Entry.{entries_of}
use Rattle.ckms_steps.proofs.Openings.{open_refused, open_fresh}
use Rattle.ckms_steps.proofs.CKMS.open.Goals as goal

pub returns-in_err-open : goal.returns-in_err-open
returns-in_err-open c =
    open_refused c.args.error (entries_of c.args.rows.now) c.args.lens.now c.open.result (entries_of c.open.new.rows) c.open.new.lens c.open.ensures _ _ (search rules) c.in_err-open.was

pub returns : goal.returns
returns c =
    open_fresh c.args.error (entries_of c.args.rows.now) c.args.lens.now c.open.result (entries_of c.open.new.rows) c.open.new.lens c.open.ensures _ c.in_ok-open.was
