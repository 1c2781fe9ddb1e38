-- `scan_put::put_named` meets its contract: three texts put one behind the other.
-- Assumes nothing.
use native.Mathlib.Omega.{arith}
use Rattle.scan_put.proofs.Texts.{put_both}
use Rattle.scan_put.proofs.put_named.Goals as goal

pub returns : goal.returns
returns c =
    let tail = put_both c.put_number-after_number.ensures.0 c.put.ensures in
    (put_both c.put-after_words.ensures tail, omega arith)
