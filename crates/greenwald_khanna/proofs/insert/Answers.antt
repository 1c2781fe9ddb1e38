-- `greenwald_khanna::insert` meets its contract: each return is a case of the definition.
-- Assumes nothing.
use Rattle.std.proofs.Common.{map, arith}
use Rattle.std.proofs.lemmas.Result.{err_from_is_err_and}
use lib.ListN.{length-map}
use Rattle.refusal.specs.declared.Refusal.TheVariants.{Count, Full}
use Rattle.greenwald_khanna_steps.proofs.Checks.{checked_passes}
use Rattle.greenwald_khanna_steps.proofs.Sounds.{sound_facts}
use Rattle.greenwald_khanna.proofs.Exactly.{insert_exactly}
use Rattle.greenwald_khanna.proofs.Returns.{insert_refused, insert_unchecked, accepts, insert_accepted}
use Rattle.greenwald_khanna.proofs.insert.Goals as goal

pub returns-in_err-check : goal.returns-in_err-check
returns-in_err-check g c =
    let p = err_from_is_err_and c.from_residual.result c.from_residual.ensures.1 in
    rw (p.1, p.2) (insert_unchecked c.args.stream (map g.T.Slot.entry c.args.list.now) c.args.v _ c.in_err-check.ensures)

pub returns-then-stream-ge-OBSERVATIONS : goal.returns-then-stream-ge-OBSERVATIONS
returns-then-stream-ge-OBSERVATIONS g c =
    let list = map g.T.Slot.entry c.args.list.now in
    let t = checked_passes c.args.stream list c.in_ok-check.ensures in
    insert_refused c.args.stream list c.args.v Count
    ((insert_exactly c.args.stream list c.args.v).count.1 (t.0, t.1, omega (arith, (sound_facts c.args.stream list t.1).count)))

pub returns-then-list-stream : goal.returns-then-list-stream
returns-then-list-stream g c =
    let list = map g.T.Slot.entry c.args.list.now in
    let t = checked_passes c.args.stream list c.in_ok-check.ensures in
    insert_refused c.args.stream list c.args.v Full
    ((insert_exactly c.args.stream list c.args.v).full.1
    (t.0, t.1, omega arith, omega (arith, (sound_facts c.args.stream list t.1).room, length-map c.args.list.now g.T.Slot.entry)))

pub take-requires : goal.take-requires
take-requires g c =
    accepts c.args.stream (map g.T.Slot.entry c.args.list.now) c.args.v c.in_ok-check.ensures (omega arith) (omega (arith, length-map c.args.list.now g.T.Slot.entry))

pub returns : goal.returns
returns g c =
    let list = map g.T.Slot.entry c.args.list.now in
    insert_accepted c.args.stream list c.args.v (accepts c.args.stream list c.args.v c.in_ok-check.ensures (omega arith) (omega (arith, length-map c.args.list.now g.T.Slot.entry)))
    c.take.result (map g.T.Slot.entry c.take.new.list) c.take.ensures
