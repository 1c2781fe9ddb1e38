-- `search::scan` meets its contract: the places before i are passed.
-- Assumes nothing.
use Rattle.std.proofs.Common.{arith, ◌≡◌, sym, ◌∙◌, map, length}
use Rattle.entries.specs.Entry.{values}
use Rattle.entries.proofs.Places.{place_found, place_next, place_end}
use Rattle.entries.proofs.Points.{slot_value, length_values_by}
use Rattle.search.proofs.scan.Goals as goal

pub returns-then-x-entry : goal.returns-then-x-entry
returns-then-x-entry g c =
    let xs = c.args.list.now in
    let here = slot_value g.T.Slot.entry xs c.loop-i.i c.index-list-i.result c.entry.result (omega arith) c.index-list-i.is c.entry.ensures in
    place_found c.args.x (values (map g.T.Slot.entry xs)) c.loop-i.i (omega (arith, length_values_by g.T.Slot.entry xs)) (omega (arith, here)) c.loop-i.invariant

pub loop-i-preserved : goal.loop-i-preserved
loop-i-preserved g c =
    let xs = c.args.list.now in
    let here = slot_value g.T.Slot.entry xs c.loop-i.i c.index-list-i.result c.entry.result (omega arith) c.index-list-i.is c.entry.ensures in
    place_next c.args.x (values (map g.T.Slot.entry xs)) c.loop-i.i (omega (arith, length_values_by g.T.Slot.entry xs)) (omega (arith, here)) c.loop-i.invariant

pub returns : goal.returns
returns g c =
    let xs = c.args.list.now in
    let all : c.loop-i.i ≡ length xs = omega arith in
    sym all ∙ place_end c.args.x (values (map g.T.Slot.entry xs)) c.loop-i.i (omega (arith, length_values_by g.T.Slot.entry xs)) c.loop-i.invariant
