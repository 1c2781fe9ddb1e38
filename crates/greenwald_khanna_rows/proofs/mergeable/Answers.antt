-- `greenwald_khanna_rows::mergeable` meets its contract: the sum decides, and below p the bands do.
-- Assumes nothing.
use Rattle.std.proofs.Common.{arith}
use Rattle.std.proofs.lemmas.Bool.Decides.{nat_tests}
use Rattle.greenwald_khanna_theory.specs.Summary.{mergeable}
use Rattle.greenwald_khanna_rows.proofs.mergeable.Goals as goal

pub returns-then-from : goal.returns-then-from
unfolding mergeable
returns-then-from c = grind (arith, nat_tests)

pub returns-else-from : goal.returns-else-from
unfolding mergeable
returns-else-from c = grind (arith, nat_tests)
