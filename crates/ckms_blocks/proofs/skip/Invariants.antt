use mathlib.Core.Path.{◌≡◌}
use Prim.Native.Nat.{◌+◌}
use Rattle.ckms_blocks.proofs.Skips.{Searching}
use Rattle.ckms_blocks.proofs.skip.Given as goal

abbrev pub invariant-loop-block : goal.invariant-loop-block
invariant-loop-block l = (l.block ≡ l.at.block + 1) × Searching l.x l.rows l.lens l.at
