-- `ckms::query` meets its contract: where the rest of the state is sound the store decides; else DAMAGED, behind the store's refusals.
-- Assumes nothing.
use mathlib.Core.Path.{◌≡◌, sym, ◌∙◌}
use Rattle.std.proofs.Common.{rules}
use Rattle.std.specs.Prelude.{Err}
use Rattle.entries.specs.Entry.{entries_of}
use Rattle.ckms.proofs.Calls.{query_store, query_refused}
use Rattle.ckms.proofs.query.Goals as goal

pub returns-then-record_sound : goal.returns-then-record_sound
returns-then-record_sound c =
    query_store c.args.state (entries_of c.args.rows.now) c.args.lens.now c.args.q c.samples-samples.result c.samples-samples.ensures c.query.result (sym c.record_sound.ensures ∙ c.if-record_sound.true) c.query.ensures

pub returns-in_err-check : goal.returns-in_err-check
returns-in_err-check c =
    let passed : c.from_residual.result ≡ Err c.in_err-check.field-0.0 = search rules in
    passed ∙ query_refused c.args.state (entries_of c.args.rows.now) c.args.lens.now c.args.q c.samples-samples.result c.samples-samples.ensures _ (sym c.record_sound.ensures ∙ c.if-record_sound.false) c.in_err-check.ensures

pub returns : goal.returns
returns c =
    query_refused c.args.state (entries_of c.args.rows.now) c.args.lens.now c.args.q c.samples-samples.result c.samples-samples.ensures _ (sym c.record_sound.ensures ∙ c.if-record_sound.false) c.in_ok-check.ensures
