-- `histogram_rows::bounds::ending` meets its contract: a number's bins are counted by the search, and +Inf has them all.
-- Assumes nothing.
use mathlib.Core.Path.{sym, ap, ◌∙◌}
use native.Mathlib.Omega.{arith}
use lib.Dec.{leb}
use Rattle.std.proofs.Common.{rules, of_calls}
use Rattle.std.proofs.lemmas.Fn.{always_returns_same}
use Rattle.std.proofs.lemmas.List.Sorted.{IsPartitionedBy-leb}
use Rattle.histogram_rows.specs.Bounds.{ending}
use Rattle.histogram_rows.proofs.Choosing.{ending_finite, ending_inf, ending_le}
use Rattle.histogram_rows.proofs.Searching.{never_falls, point_upto}
use Rattle.histogram_rows.proofs.bounds.ending.Goals as goal

pub returns-in-Finite : goal.returns-in-Finite
returns-in-Finite c =
    let bs = c.args.bounds.now in
    let x = c.in-Finite.x in
    let parted = IsPartitionedBy-leb (λ b. b) bs x (never_falls bs c.requires) in
    let point = c.partition_point.ensures.partitioned (λ b. leb b x) (always_returns_same _ _ _ (λ a r q k. search (rules, of_calls))) parted in
    let e = point_upto x bs c.partition_point.result c.partition_point.ensures.bound point ∙ sym (ending_finite bs x) ∙ ap (ending bs) (sym c.in-Finite.is) in
    (e, omega (arith, e, ending_le bs c.args.u))

pub returns-in-PosInf : goal.returns-in-PosInf
returns-in-PosInf c =
    (rw c.in-PosInf.is (omega (arith, ending_inf c.args.bounds.now)), omega arith)
