-- `ckms_store::compress` meets its contract: the tests' refusal, or the compression.
-- Assumes nothing.
use Rattle.std.proofs.Common.{rules}
use Rattle.entries.specs.Entry.{entries_of}
use Rattle.ckms_store.proofs.Calls.{passed, compress_untested, compress_done}
use Rattle.ckms_store.proofs.compress.Goals as goal

pub returns-in_err-check : goal.returns-in_err-check
returns-in_err-check c = compress_untested c.args.store (entries_of c.args.rows.now) c.args.lens.now _ _ (search rules) c.in_err-check.ensures

pub tidy-requires : goal.tidy-requires
tidy-requires c = passed c.args.store (entries_of c.args.rows.now) c.args.lens.now c.in_ok-check.ensures

pub returns : goal.returns
returns c = compress_done c.args.store (entries_of c.args.rows.now) c.args.lens.now (passed c.args.store (entries_of c.args.rows.now) c.args.lens.now c.in_ok-check.ensures) c.tidy.result (entries_of c.tidy.new.rows) c.tidy.new.lens c.tidy.ensures
