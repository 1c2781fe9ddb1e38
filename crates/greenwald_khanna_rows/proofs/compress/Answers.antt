-- `greenwald_khanna_rows::compress` meets its contract: the backward pass, the move down and the zeroing, one after the other.
-- Assumes nothing.
use Rattle.std.proofs.Common.{◌≡◌, ◌∙◌, ap, map, length, arith, ℕ}
use Rattle.std.specs.List.{copy_within}
use Rattle.std.proofs.lemmas.List.{length-map}
use Rattle.entries.proofs.Maps.{zero_is}
use Rattle.greenwald_khanna_rows.proofs.Gaps.{short, all}
use Rattle.greenwald_khanna_rows.proofs.compress.Goals as goal

pub returns-then-held-lt2 : goal.returns-then-held-lt2
returns-then-held-lt2 g c =
    let n = length-map c.args.list.now g.T.Slot.entry in
    rw (← n) (short c.args.p (map g.T.Slot.entry c.args.list.now) (omega (arith, n)))

pub returns : goal.returns
returns g c =
    let ys = c.merge_back-w.new.list in
    let start : c.max.result ≡ c.merge_back-w.result = omega (arith, c.max.ensures, c.merge_back-w.ensures.order) in
    let moved = c.copy_within.ensures.after ∙ ap (λ (w : ℕ). copy_within ys w (length ys) 1) start in
    all g.T.Slot.entry c.args.p c.merge_back-w.result _ _ _ _ _ (omega arith)
    c.merge_back-w.ensures moved c.clear.ensures (c.holding.ensures ∙ zero_is c.default.result c.default.ensures)
