-- `ckms_store_work::tidy` meets its contract: fewer than 3 entries stay; else the two halves of a compression.
-- Assumes nothing.
use mathlib.Core.Path.{refl}
use mathlib.Core.List.{map-append}
use native.Mathlib.Omega.{arith}
use lib.ListN.{drop}
use Rattle.entries.specs.Entry.{entry_of, entries_of}
use Rattle.entries.proofs.Maps.{map_take, map_drop}
use Rattle.ckms_store_work.proofs.Works.{ruled, blocks_long, rows_used, whole, tidy_left, tidy_few}
use Rattle.ckms_store_work.proofs.tidy.Goals as goal

pub returns-then-held-lt-COMPRESSED : goal.returns-then-held-lt-COMPRESSED
returns-then-held-lt-COMPRESSED c = tidy_few _ _ _ c.requires c.if-held-lt-COMPRESSED.true

pub invariant_of-error : goal.invariant_of-error
invariant_of-error c = record { allowed = (ruled _ _ _ c.requires).error }

pub slice_bounds-used-end : goal.slice_bounds-used-end
slice_bounds-used-end c = (ruled _ _ _ c.requires).places

pub slice_bounds-used-end-2 : goal.slice_bounds-used-end-2
slice_bounds-used-end-2 c = omega (arith, blocks_long _ _ _ c.requires)

pub slice_bounds-squash-end : goal.slice_bounds-squash-end
slice_bounds-squash-end c = (rows_used _ _ _ c.requires).0

pub slice_bounds-squash-end-2 : goal.slice_bounds-squash-end-2
slice_bounds-squash-end-2 c = omega (arith, (rows_used _ _ _ c.requires).1)

pub squash-left-requires : goal.squash-left-requires
squash-left-requires c = rw (rows_used _ _ _ c.requires).1 (whole _ _ _ c.requires c.if-held-lt-COMPRESSED.false)

pub join-joined-requires : goal.join-joined-requires
join-joined-requires c = omega (arith, c.squash-left.auto.lens, (whole _ _ _ c.requires c.if-held-lt-COMPRESSED.false).block)

pub returns : goal.returns
returns c =
    let held = c.args.store.held in
    let rows = c.args.rows.now in
    let part = c.squash-left.new.rows in
    rw (map-append entry_of part (drop held rows), map_drop entry_of held rows)
    (tidy_left _ _ _ c.requires c.if-held-lt-COMPRESSED.false _ (entries_of part) c.squash-left.new.lens c.join-joined.new.lens
    (rw (map_take entry_of held rows) at c.squash-left.ensures) c.join-joined.ensures refl refl refl)
