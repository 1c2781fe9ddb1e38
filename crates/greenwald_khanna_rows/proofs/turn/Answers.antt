-- `greenwald_khanna_rows::turn` meets its contract: each way is one law about a store in a list.
-- Assumes nothing.
use Rattle.std.proofs.Common.{◌∙◌, sym, arith}
use Rattle.greenwald_khanna_rows.proofs.Turns.{goes_below, goes, stays}
use Rattle.greenwald_khanna_rows.proofs.turn.Goals as goal

pub absorbing-requires : goal.absorbing-requires
absorbing-requires g c =
    omega (arith, goes_below c.args.p c.entry-e.result c.entry-next.result (sym c.mergeable.ensures ∙ c.if-mergeable.true))

pub returns-then-mergeable : goal.returns-then-mergeable
returns-then-mergeable g c =
    goes g.T.Slot.entry c.args.p c.args.i c.args.w _ _ _ _ _ (omega arith) (omega arith) c.index-list-i.is c.entry-e.ensures c.index-list-w.is c.entry-next.ensures
    c.holding.result (c.holding.ensures ∙ c.absorbing.ensures) (sym c.mergeable.ensures ∙ c.if-mergeable.true)

pub returns : goal.returns
returns g c =
    stays g.T.Slot.entry c.args.p c.args.i c.args.w _ _ _ _ _ (omega arith) (omega arith) c.index-list-i.is c.entry-e.ensures c.index-list-w.is c.entry-next.ensures
    (sym c.mergeable.ensures ∙ c.if-mergeable.false)
