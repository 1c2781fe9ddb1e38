-- `greenwald_khanna_steps::Stream::take` meets its contract: the two halves, the second where the period divides the new n.
-- Assumes nothing.
use mathlib.Core.List.{map}
use mathlib.Core.Path.{sym, ap, ◌∙◌}
use Prim.Native.Nat.{ℕ, ◌%◌}
use native.Mathlib.Omega.{arith}
use lib.ListN.{length-map}
use Rattle.fraction.proofs.Laws.{period_pos}
use Rattle.greenwald_khanna_steps.proofs.Halves.{grown_fits, insert_grown, insert_tidied}
use Rattle.greenwald_khanna_steps.proofs.Sounds.{sound_facts}
use Rattle.greenwald_khanna_steps.proofs.Stream.take.Goals as goal

pub nonzero_rem-grown : goal.nonzero_rem-grown
nonzero_rem-grown g c =
    let f = sound_facts c.args.self (map g.T.Slot.entry c.args.list.now) c.requires.unharmed in
    omega (arith, c.period.ensures, period_pos c.args.self.epsilon f.epsilon)

pub tidy-requires : goal.tidy-requires
tidy-requires g c =
    let before = map g.T.Slot.entry c.args.list.now in
    let after = map g.T.Slot.entry c.grow-grown.new.list in
    let k = grown_fits c.args.self before c.args.v c.grow-grown.result after (sound_facts c.args.self before c.requires.unharmed).epsilon c.grow-grown.ensures in
    (k.0, omega (arith, k.1, length-map c.grow-grown.new.list g.T.Slot.entry))

pub returns-then-grown-period-eq0 : goal.returns-then-grown-period-eq0
returns-then-grown-period-eq0 g c =
    insert_tidied c.args.self (map g.T.Slot.entry c.args.list.now) c.args.v c.requires.room c.grow-grown.result (map g.T.Slot.entry c.grow-grown.new.list) c.grow-grown.ensures
    (ap (λ (k : ℕ). c.grow-grown.result.n % k) (sym c.period.ensures) ∙ c.if-grown-period-eq0.true) c.tidy.result (map g.T.Slot.entry c.tidy.new.list) c.tidy.ensures

pub returns : goal.returns
returns g c =
    insert_grown c.args.self (map g.T.Slot.entry c.args.list.now) c.args.v c.requires.room c.grow-grown.result (map g.T.Slot.entry c.grow-grown.new.list) c.grow-grown.ensures
    (λ z. c.if-grown-period-eq0.false (ap (λ (k : ℕ). c.grow-grown.result.n % k) c.period.ensures ∙ z))
