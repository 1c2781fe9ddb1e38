-- `scan_put::put_number` meets its contract: the digits of `io::decimal` are those of the definition, ten at most.
-- Assumes nothing.
use Rattle.std.proofs.Common.{arith, rules, length-take}
use Rattle.scan_put.proofs.Digits.{written, length_digits}
use Rattle.scan_put.proofs.put_number.Goals as goal

pub put-requires : goal.put-requires
put-requires c =
    let d = written c.decimal-k.result c.args.n c.from.result c.decimal-k.new.out c.from.ensures (search rules) c.decimal-k.ensures.len c.decimal-k.ensures.digits in
    omega (arith, length-take c.decimal-k.result c.decimal-k.new.out)

pub returns : goal.returns
returns c =
    let d = written c.decimal-k.result c.args.n c.from.result c.decimal-k.new.out c.from.ensures (search rules) c.decimal-k.ensures.len c.decimal-k.ensures.digits in
    let q = rw d.1 at c.put.ensures in
    (q, omega (arith, length_digits 10 c.args.n))
