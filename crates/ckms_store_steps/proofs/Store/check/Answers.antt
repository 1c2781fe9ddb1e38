-- `ckms_store_steps::Store::check` meets its contract: test by test.
-- Assumes nothing.
use lib.ListN.{length-map}
use Rattle.std.proofs.Common.{arith}
use Rattle.std.proofs.lemmas.Grind.{common_steps}
use Rattle.entries.specs.Entry.{entry_of}
use Rattle.ckms_store_steps.specs.Answers.{checked}
use Rattle.ckms_store_steps.proofs.Store.check.Goals as goal

pub returns-then-not-slots_ok : goal.returns-then-not-slots_ok
unfolding checked
returns-then-not-slots_ok c = rw (length-map c.args.rows.now entry_of) (grind (arith, common_steps))

pub returns-then-not-is_sound : goal.returns-then-not-is_sound
unfolding checked
returns-then-not-is_sound c = rw (length-map c.args.rows.now entry_of) (grind (arith, common_steps))

pub returns : goal.returns
unfolding checked
returns c = rw (length-map c.args.rows.now entry_of) (grind (arith, common_steps))
