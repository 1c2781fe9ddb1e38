use Prim.Native.Nat.{◌≤◌}
use Rattle.ckms_rows.proofs.Walks.{Walking}
use Rattle.ckms_rows.proofs.walk.walk.Given as goal

abbrev pub invariant-loop-row : goal.invariant-loop-row
invariant-loop-row l = (l.rank ≤ 1000000000) × Walking l.scale l.limit l.rows l.row-items l.row-index l.rank l.before.v
