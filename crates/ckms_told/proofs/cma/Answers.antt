-- `ckms_told::cma` meets its contract: the check decides the answer.
-- Assumes nothing.
use Rattle.std.proofs.Common.{rules}
use Rattle.entries.specs.Entry.{entries_of}
use Rattle.ckms_told.specs.Answers.{cma_of}
use Rattle.ckms_told.proofs.Tests.{answered_by, refused}
use Rattle.ckms_told.proofs.cma.Goals as goal

pub returns-in_err-check : goal.returns-in_err-check
unfolding cma_of
returns-in_err-check c = refused c.args.state (entries_of c.args.rows.now) c.args.lens.now _ _ _ (search rules) c.in_err-check.ensures

pub returns : goal.returns
unfolding cma_of
returns c = answered_by c.args.state (entries_of c.args.rows.now) c.args.lens.now _ _ c.in_ok-check.ensures
