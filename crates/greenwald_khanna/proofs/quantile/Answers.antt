-- `greenwald_khanna::quantile` meets its contract: each return is a case of the definition.
-- Assumes nothing.
use Rattle.std.proofs.Common.{map, sym, arith}
use Rattle.std.proofs.lemmas.Result.{err_from_is_err_and}
use lib.ListN.{length, length-map}
use Rattle.greenwald_khanna_steps.proofs.Checks.{checked_passes}
use Rattle.greenwald_khanna_steps.proofs.Sounds.{held_none, slots_within}
use Rattle.greenwald_khanna.proofs.Asking.{rank_within}
use Rattle.greenwald_khanna.proofs.Exactly.{quantile_exactly}
use Rattle.greenwald_khanna.proofs.Returns.{asked_post, asked_unchecked, asked_value}
use Rattle.greenwald_khanna.proofs.quantile.Goals as goal

pub returns-in_err-check : goal.returns-in_err-check
returns-in_err-check g c =
    let p = err_from_is_err_and c.from_residual.result c.from_residual.ensures.1 in
    rw (p.1, p.2) (asked_unchecked c.args.stream (map g.T.Slot.entry c.args.list.now) c.args.phi _ c.in_err-check.ensures)

pub returns-then-not-is_phi : goal.returns-then-not-is_phi
returns-then-not-is_phi g c =
    let list = map g.T.Slot.entry c.args.list.now in
    let t = checked_passes c.args.stream list c.in_ok-check.ensures in
    asked_post c.args.stream list c.args.phi _ (sym ((quantile_exactly c.args.stream list c.args.phi).phi.1 (t.0, t.1, sym c.if-not-is_phi.ensures)))

pub returns-then-stream-eq0 : goal.returns-then-stream-eq0
returns-then-stream-eq0 g c =
    let list = map g.T.Slot.entry c.args.list.now in
    let t = checked_passes c.args.stream list c.in_ok-check.ensures in
    asked_post c.args.stream list c.args.phi _
    (sym ((quantile_exactly c.args.stream list c.args.phi).empty.1 (t.0, t.1, sym c.if-not-is_phi.ensures, held_none c.args.stream list t.1 (omega arith))))

pub at_rank-requires : goal.at_rank-requires
at_rank-requires g c =
    let t = checked_passes c.args.stream (map g.T.Slot.entry c.args.list.now) c.in_ok-check.ensures in (
      t.1,
      omega (arith, (slots_within (length (map g.T.Slot.entry c.args.list.now)) t.0).1, length-map c.args.list.now g.T.Slot.entry),
      omega arith,
      omega (arith, rank_within c.args.phi c.args.stream.n (sym c.if-not-is_phi.ensures)),
    )

pub returns : goal.returns
returns g c =
    let list = map g.T.Slot.entry c.args.list.now in
    let t = checked_passes c.args.stream list c.in_ok-check.ensures in
    asked_post c.args.stream list c.args.phi _
    (asked_value c.args.stream list c.args.phi t.0 t.1 (sym c.if-not-is_phi.ensures) c.floor_mul-rank.result c.at_rank.result c.floor_mul-rank.ensures c.at_rank.ensures)
