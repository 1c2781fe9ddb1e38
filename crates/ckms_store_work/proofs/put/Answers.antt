-- `ckms_store_work::put` meets its contract: the inner functions find the place, make room and let the block grow.
-- Assumes nothing.
use mathlib.Core.Path.{refl}
use native.Mathlib.Omega.{arith}
use lib.ListN.{length-map}
use Rattle.entries.specs.Entry.{entry_of, entries_of}
use Rattle.entries.proofs.Layouts.{put_rows}
use Rattle.entries.proofs.Maps.{map_take}
use Rattle.ckms_store_work.proofs.Works.{found, ruled, slots_are, blocks_long, blocks_few, in_blocks, place_inside, rank_fits, block_there, put_left}
use Rattle.ckms_store_work.proofs.put.Goals as goal

pub invariant_of-error : goal.invariant_of-error
invariant_of-error c = record { allowed = (ruled _ _ _ c.requires.0).error }

pub slice_bounds-seek-end-3 : goal.slice_bounds-seek-end-3
slice_bounds-seek-end-3 c = (ruled _ _ _ c.requires.0).places

pub slice_bounds-seek-end-4 : goal.slice_bounds-seek-end-4
slice_bounds-seek-end-4 c = omega (arith, blocks_long _ _ _ c.requires.0)

pub seek-spot-requires : goal.seek-spot-requires
seek-spot-requires c = rw (map_take entry_of c.args.store.held c.args.rows.now) (in_blocks _ _ _ c.requires.0)

pub new_delta-delta-requires : goal.new_delta-delta-requires
new_delta-delta-requires c = rank_fits _ _ _ c.requires.0 c.args.v c.requires.1 _ (found _ _ _ _ _ c.seek-spot.ensures)

pub insert_at-requires : goal.insert_at-requires
insert_at-requires c = (place_inside _ _ _ c.requires.0 c.args.v c.requires.1 _ (found _ _ _ _ _ c.seek-spot.ensures), c.requires.2)

pub grow-grown-requires : goal.grow-grown-requires
grow-grown-requires c =
    let list = entries_of c.args.rows.now in
    let lens = c.args.lens.now in (
      block_there _ _ _ c.requires.0 c.args.v c.requires.1 _ (found _ _ _ _ _ c.seek-spot.ensures),
      omega (arith, c.requires.2, blocks_few c.args.store list lens c.requires.0, slots_are c.args.store list lens c.requires.0, length-map c.args.rows.now entry_of),
    )

pub returns : goal.returns
returns c =
    let list = entries_of c.args.rows.now in
    let lens = c.args.lens.now in
    let rows =
    put_rows c.seek-spot.result.place c.args.store.held c.args.v 1 c.new_delta-delta.result c.args.rows.now
    c.insert_at.new.list c.insert_at.ensures in
    put_left c.args.store list lens c.requires.0 c.args.v c.requires.1 c.seek-spot.result (found _ _ _ _ _ c.seek-spot.ensures) c.new_delta-delta.result _ (entries_of c.insert_at.new.list) c.grow-grown.new.lens
    c.new_delta-delta.ensures rows c.grow-grown.ensures refl refl refl refl
