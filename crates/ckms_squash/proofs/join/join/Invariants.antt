use mathlib.Core.Path.{◌≡◌}
use Prim.Native.Nat.{◌≤◌}
use Rattle.ckms_theory.specs.Join.{joined}
use Rattle.ckms_squash.proofs.Joins.{joining}
use Rattle.ckms_squash.proofs.join.join.Given as goal

abbrev pub invariant-loop-i : goal.invariant-loop-i
invariant-loop-i l = (1 ≤ l.w) × (l.w ≤ l.i) × (joining l.size l.w l.i l.lens ≡ joined l.size l.initial.lens)
