-- `greenwald_khanna_sound::sound_entries` meets its contract: before each place the rules not seen yet say what all of them say.
-- Assumes nothing.
use Rattle.std.proofs.Common.{◌≤◌, length, ◌∙◌, sym, arith}
use Rattle.greenwald_khanna_sound.proofs.Soundness.{ends_wrong, begin, falls, thin, large, go, finish}
use Rattle.greenwald_khanna_sound.proofs.sound_entries.Goals as goal
use Rattle.greenwald_khanna_sound.proofs.sound_entries.Goals.{then-e-low-via-then-e-low, then-e-low-via-else-e-low+then-g-lt1, then-e-low-via-else-e-low+else-g-lt1+then-most-g}

pub returns-then-not-ends_exact : goal.returns-then-not-ends_exact
returns-then-not-ends_exact g c = ends_wrong c.args.p c.args.n _ (sym c.if-not-ends_exact.true ∙ c.ends_exact.ensures)

pub loop-place-init : goal.loop-place-init
loop-place-init g c =
    (omega arith, begin c.args.p c.args.n _ (sym c.if-not-ends_exact.false ∙ c.ends_exact.ensures))

pub returns-then-e-low : goal.returns-then-e-low
returns-then-e-low g c =
    let a = c.args in
    elim c.then-e-low.branch [
      | then-e-low-via-then-e-low w ↦
          falls a.p a.n g.T.Slot.entry _ _ _ _ c.loop-place.invariant.1 _ _ c.loop-place-test.true c.place-item.is c.entry-e.ensures (omega arith)
      | then-e-low-via-else-e-low+then-g-lt1 w ↦
          thin a.p a.n g.T.Slot.entry _ _ _ _ c.loop-place.invariant.1 _ _ c.loop-place-test.true c.place-item.is c.entry-e.ensures (omega arith)
      | then-e-low-via-else-e-low+else-g-lt1+then-most-g w ↦
          large a.p a.n g.T.Slot.entry _ _ _ _ c.loop-place.invariant.1 _ _ c.loop-place-test.true c.place-item.is c.entry-e.ensures (omega arith)
    ]

pub loop-place-preserved : goal.loop-place-preserved
loop-place-preserved g c = (
  omega arith,
  rw c.from-g.ensures
      (go c.args.p c.args.n g.T.Slot.entry _ _ _ _ c.loop-place.invariant.1 _ _ c.loop-place-test.true c.place-item.is c.entry-e.ensures
      (omega arith) (omega arith) (omega arith)),
)

pub returns : goal.returns
returns g c =
    let past : length c.args.list.now ≤ c.loop-place.place-index = omega arith in
    rw c.from-2.ensures (finish c.args.p c.args.n g.T.Slot.entry _ _ _ _ c.loop-place.invariant.1 past)
