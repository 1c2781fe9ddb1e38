-- `scan_file::parse` meets its contract: each test that fails breaks a fact of well-formed bytes, and the tests together are those facts.
-- Assumes nothing.
use Rattle.std.proofs.Common.{arith}
use Rattle.scan_file.proofs.Parsing.{Facts, breaks, count_read, keeps}
use Rattle.scan_file.proofs.parse.Goals as goal

pub returns-then-word_at-ne2 : goal.returns-then-word_at-ne2
returns-then-word_at-ne2 c = breaks c.args.bytes.now (λ f. grind arith)

pub returns-then-count-gt-OBSERVATIONS : goal.returns-then-count-gt-OBSERVATIONS
returns-then-count-gt-OBSERVATIONS c =
    let e = count_read c.args.bytes.now c.word_at-words.result c.word_at-count.result c.word_at-words.ensures c.word_at-count.ensures in
    breaks c.args.bytes.now (λ f. grind arith)

pub returns : goal.returns
returns c =
    let e = count_read c.args.bytes.now c.word_at-words.result c.word_at-count.result c.word_at-words.ensures c.word_at-count.ensures in
    let f : Facts c.args.bytes.now = record { epsilon = omega arith; few = omega arith; even = omega arith; small = omega arith; long = omega arith } in
    keeps c.args.bytes.now c.word_at-words.result c.word_at-count.result c.word_at-words.ensures c.word_at-count.ensures c.word_at-2.result c.word_at-3.result f
    c.word_at-2.ensures c.word_at-3.ensures
