use mathlib.Core.List.{map}
use Rattle.greenwald_khanna_rows.specs.Compress.{MergedFrom}
use Rattle.greenwald_khanna_rows.proofs.merge_back.Given as goal

abbrev pub invariant-loop-i : goal.invariant-loop-i
invariant-loop-i g l = MergedFrom l.p (map g.T.Slot.entry l.initial.list) l.i l.w (map g.T.Slot.entry l.list)
