-- `search::place` meets its contract: the list is shorter at each call, and the place lies in the half that is searched.
-- Assumes nothing.
use native.Mathlib.Omega.{arith}
use mathlib.Core.Path.{ap, ◌∙◌}
use lib.ListN.{length, length-drop}
use lib.Seq.{length-take-le}
use Prim.Native.Nat.{ℕ, ◌+◌, ◌/◌}
use Rattle.entries.proofs.Places.{part_end}
use Rattle.entries.proofs.Points.{slot_value}
use Rattle.search.proofs.Halves.{front_rising, back_rising, in_front, in_back, in_back_le}
use Rattle.search.proofs.+place.Goals as goal

pub place-requires : goal.place-requires
place-requires g t c κs within =
    let xs = c.args.list.now in
    (omega (arith, length-take-le (length xs / 2) xs (omega arith)), (within, front_rising g.T.Slot.entry xs (length xs / 2) c.requires))

pub place-requires-else-x-entry : goal.place-requires-else-x-entry
place-requires-else-x-entry g t c κs within =
    let xs = c.args.list.now in (
      omega (arith, ap length (part_end xs (length xs / 2)), length-drop (length xs / 2) xs),
      (within, back_rising g.T.Slot.entry xs (length xs / 2) c.requires),
    )

pub overflow_add-result : goal.overflow_add-result
overflow_add-result g t c =
    let xs = c.args.list.now in
    let here = slot_value g.T.Slot.entry xs (length xs / 2) c.index-list-middle.result c.entry.result (omega arith) c.index-list-middle.is c.entry.ensures in
    omega (arith, in_back_le g.T.Slot.entry xs (length xs / 2) c.args.x (omega arith) c.requires (omega (arith, here)))

pub returns-then-x-entry : goal.returns-then-x-entry
returns-then-x-entry g t c =
    let xs = c.args.list.now in
    let here = slot_value g.T.Slot.entry xs (length xs / 2) c.index-list-middle.result c.entry.result (omega arith) c.index-list-middle.is c.entry.ensures in
    c.place.ensures ∙ in_front g.T.Slot.entry xs (length xs / 2) c.args.x (omega arith) (omega (arith, here))

pub returns-else-x-entry : goal.returns-else-x-entry
returns-else-x-entry g t c =
    let xs = c.args.list.now in
    let here = slot_value g.T.Slot.entry xs (length xs / 2) c.index-list-middle.result c.entry.result (omega arith) c.index-list-middle.is c.entry.ensures in
    ap (λ (n : ℕ). length xs / 2 + n) c.place-else-x-entry.ensures
    ∙ in_back g.T.Slot.entry xs (length xs / 2) c.args.x (omega arith) c.requires (omega (arith, here))
