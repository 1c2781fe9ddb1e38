-- `ckms_words::is_plus_zero` meets its contract: what equals 0 is a zero, and one over it has its sign.
-- Assumes nothing.
use mathlib.Core.Path.{◌∙◌}
use Rattle.ckms_words.proofs.Zeros.{a_zero, no_zero}
use Rattle.ckms_words.proofs.is_plus_zero.Goals as goal

pub returns-then-x : goal.returns-then-x
returns-then-x c = a_zero c.args.x c.if-x.true

pub returns-else-x : goal.returns-else-x
returns-else-x c = c.if-x.false ∙ no_zero c.args.x c.if-x.false
