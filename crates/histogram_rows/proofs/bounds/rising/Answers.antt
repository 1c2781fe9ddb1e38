-- `histogram_rows::bounds::rising` meets its contract: the library's test of the order.
-- Assumes nothing.
use Rattle.std.proofs.Common.{rules}
use Rattle.histogram_rows.proofs.Searching.{rising_is}
use Rattle.histogram_rows.proofs.bounds.rising.Goals as goal

pub returns : goal.returns
returns c = search (rules, rising_is)
