-- `ckms_squash::squash::turn` meets its contract: each arm of the test is one arm of the definition.
-- Assumes nothing.
use mathlib.Core.Path.{sym, ◌∙◌}
use Rattle.ckms_squash.proofs.Turns.{turn_merged, turn_kept}
use Rattle.ckms_squash.proofs.squash.turn.Goals as goal

pub returns-then-merges : goal.returns-then-merges
returns-then-merges c =
    turn_merged c.args.error.fraction c.args.rows.now c.args.w c.args.i c.holding.result
    (rw (c.entry-current.ensures, c.entry-next.ensures) at (sym c.merges.ensures ∙ c.if-merges.true))
    (rw (c.entry-current.ensures, c.entry-next.ensures) at (c.holding.ensures ∙ c.absorbing.ensures))

pub returns : goal.returns
returns c =
    turn_kept c.args.error.fraction c.args.rows.now c.args.w c.args.i
    (rw (c.entry-current.ensures, c.entry-next.ensures) at (sym c.merges.ensures ∙ c.if-merges.false))
