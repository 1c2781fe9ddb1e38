-- `scan_file::word_at` meets its contract: the four bytes are those of the definition, each below 256.
-- Assumes nothing.
use Rattle.std.proofs.Common.{arith}
use Rattle.scan_file.specs.Words.{word_at}
use Rattle.scan_file.proofs.word_at.Goals as goal

pub returns : goal.returns
unfolding word_at
returns c = omega arith
