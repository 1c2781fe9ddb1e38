-- `ckms_told::last` meets its contract: the check decides the answer.
-- Assumes nothing.
use Rattle.std.proofs.Common.{rules}
use Rattle.entries.specs.Entry.{entries_of}
use Rattle.ckms_told.specs.Answers.{last_of}
use Rattle.ckms_told.proofs.Tests.{answered_by, refused}
use Rattle.ckms_told.proofs.last.Goals as goal

pub returns-in_err-check : goal.returns-in_err-check
unfolding last_of
returns-in_err-check c = refused c.args.state (entries_of c.args.rows.now) c.args.lens.now _ _ _ (search rules) c.in_err-check.ensures

pub returns : goal.returns
unfolding last_of
returns c = answered_by c.args.state (entries_of c.args.rows.now) c.args.lens.now _ _ c.in_ok-check.ensures
