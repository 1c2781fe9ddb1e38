-- `search::smaller` meets its contract: the search ends behind the values that are smaller.
-- Assumes nothing.
use Rattle.std.proofs.Common.{rules, of_calls, sym, ◌∙◌, ap, ℕ, ltb, subst}
use Rattle.std.proofs.lemmas.List.Sorted.{IsPartitionedBy-ltb, IsPartitionPoint-from_clause}
use Rattle.entries.specs.Ranks.{Rising, below}
use Rattle.entries.proofs.Points.{passing_point, below_passing, rising_by, values_by}
use Rattle.search.proofs.smaller.Goals as goal

pub returns : goal.returns
returns g c =
    let value : g.row.T.Denot → ℕ = λ t. (g.T.Slot.entry t).v in
    let xs = c.args.list.now in
    let sorted = rising_by value xs (subst (Rising 0) (values_by g.T.Slot.entry xs) c.requires) in
    let point = IsPartitionPoint-from_clause (λ t. ltb (value t) c.args.x) xs c.partition_point.result c.partition_point.ensures.partitioned
    (IsPartitionedBy-ltb value xs c.args.x sorted) (λ a r f h. search (rules, of_calls)) in
    sym (ap (λ vs. below vs c.args.x) (values_by g.T.Slot.entry xs)
    ∙ below_passing value c.args.x xs
    ∙ passing_point (λ t. ltb (value t) c.args.x) xs c.partition_point.result c.partition_point.ensures.bound point)
