-- `CKMS::check` meets its contract: the store's check, and then that of the rest.
-- Assumes nothing.
use mathlib.Core.Path.{◌≡◌, refl, sym, ◌∙◌}
use Rattle.std.proofs.Common.{rules}
use Rattle.std.specs.Prelude.{Err}
use Rattle.entries.specs.Entry.{entries_of}
use Rattle.ckms_steps.proofs.Tests.{checked_by}
use Rattle.ckms_steps.proofs.CKMS.check.Goals as goal

pub returns-in_err-check : goal.returns-in_err-check
returns-in_err-check c =
    let passed : c.from_residual.result ≡ Err c.in_err-check.field-0.0 = search rules in
    passed ∙ checked_by c.args.self (entries_of c.args.rows.now) c.args.lens.now c.samples.result _ _ c.samples.ensures c.in_err-check.ensures refl

pub returns-then-not-record_sound : goal.returns-then-not-record_sound
returns-then-not-record_sound c =
    checked_by c.args.self (entries_of c.args.rows.now) c.args.lens.now c.samples.result _ _ c.samples.ensures c.in_ok-check.ensures (sym c.if-not-record_sound.true ∙ c.record_sound.ensures)

pub returns : goal.returns
returns c =
    checked_by c.args.self (entries_of c.args.rows.now) c.args.lens.now c.samples.result _ _ c.samples.ensures c.in_ok-check.ensures (sym c.if-not-record_sound.false ∙ c.record_sound.ensures)
