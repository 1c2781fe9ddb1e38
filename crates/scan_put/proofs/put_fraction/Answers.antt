-- `scan_put::put_fraction` meets its contract: three texts put one behind the other.
-- Assumes nothing.
use native.Mathlib.Omega.{arith}
use Rattle.scan_put.proofs.Texts.{put_both}
use Rattle.scan_put.proofs.put_fraction.Goals as goal

pub returns : goal.returns
returns c =
    let tail = put_both c.put-after_bar.ensures c.put_number.ensures.0 in
    (put_both c.put_number-after_num.ensures.0 tail, omega arith)
