-- `ckms_store::len` meets its contract: the tests' refusal, or the state's own word.
-- Assumes nothing.
use mathlib.Core.Path.{sym}
use Rattle.std.proofs.Common.{rules}
use Rattle.entries.specs.Entry.{entries_of}
use Rattle.ckms_store.specs.Answers.{len_of}
use Rattle.ckms_store.proofs.Calls.{refused, passed, own}
use Rattle.ckms_store.proofs.len.Goals as goal

pub returns-in_err-check : goal.returns-in_err-check
unfolding len_of
returns-in_err-check c = refused c.args.store (entries_of c.args.rows.now) c.args.lens.now _ _ _ (search rules) c.in_err-check.ensures

pub returns : goal.returns
unfolding len_of
returns c = sym (own c.args.store (entries_of c.args.rows.now) c.args.lens.now _ (passed c.args.store (entries_of c.args.rows.now) c.args.lens.now c.in_ok-check.ensures))
