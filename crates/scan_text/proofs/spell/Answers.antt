-- `scan_text::spell` meets its contract: in each arm the line is known, and its text is what was put.
-- Assumes nothing.
use Rattle.std.proofs.Common.{arith}
use Rattle.scan_put.proofs.Texts.{put_both}
use Rattle.scan_text.proofs.spell.Goals as goal

pub returns-in-Value : goal.returns-in-Value
returns-in-Value c =
    rw c.in-Value.is (put_both c.put_fraction-after_fraction.ensures.0 c.put_named-in-Value.ensures.0, omega arith)

pub returns-in-Refused : goal.returns-in-Refused
returns-in-Refused c =
    rw c.in-Refused.is (put_both c.put_fraction-after_fraction-in-Refused.ensures.0 c.put_named-in-Refused.ensures.0, omega arith)
