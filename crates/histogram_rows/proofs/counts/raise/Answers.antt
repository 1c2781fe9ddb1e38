-- `histogram_rows::counts::raise` meets its contract: the value's bin has a count, and one more fits it.
-- Assumes nothing.
use native.Mathlib.Omega.{arith}
use lib.Dec.{ltb}
use Rattle.std.proofs.Common.{rules, of_calls}
use Rattle.std.proofs.lemmas.Fn.{always_returns_same}
use Rattle.std.proofs.lemmas.List.Sorted.{IsPartitionedBy-ltb}
use Rattle.entries.proofs.Totals.{total_at}
use Rattle.histogram_rows.proofs.Binning.{raised}
use Rattle.histogram_rows.proofs.Searching.{never_falls, point_below}
use Rattle.histogram_rows.proofs.counts.raise.Goals as goal

pub overflow_add-counts : goal.overflow_add-counts
overflow_add-counts c =
    omega (arith, total_at c.args.counts.now c.partition_point-bin.result, c.requires.1)

pub returns : goal.returns
returns c =
    let bs = c.args.bounds.now in
    let v = c.args.v in
    let parted = IsPartitionedBy-ltb (λ b. b) bs v (never_falls bs c.requires.0.never_fall) in
    let point = c.partition_point-bin.ensures.partitioned (λ b. ltb b v) (always_returns_same _ _ _ (λ a r q k. search (rules, of_calls))) parted in
    raised bs c.args.counts.now v c.partition_point-bin.result (point_below v bs c.partition_point-bin.result c.partition_point-bin.ensures.bound point)
