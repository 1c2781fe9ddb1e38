-- `greenwald_khanna_told::tell` meets its contract: what the tests refuse is refused, and what they pass is told.
-- Assumes nothing.
use Rattle.std.proofs.Common.{map}
use Rattle.std.proofs.lemmas.Result.{err_from_is_err_and}
use Rattle.greenwald_khanna_told.proofs.Returns.{told_refused, told_passed}
use Rattle.greenwald_khanna_told.proofs.tell.Goals as goal

pub returns-in_err-check : goal.returns-in_err-check
returns-in_err-check g c =
    let p = err_from_is_err_and c.from_residual.result c.from_residual.ensures.1 in
    rw (p.1, p.2) (told_refused c.args.stream (map g.T.Slot.entry c.args.list.now) c.args.x _ c.in_err-check.ensures)

pub returns : goal.returns
returns g c = told_passed c.args.stream (map g.T.Slot.entry c.args.list.now) c.args.x c.in_ok-check.ensures
