-- `Mean::first` meets its contract: a u32 is a finite f64 in range, by `first_finite` and `first_in` of `Steps`.
-- Assumes nothing.
use mathlib.Core.Path.{refl}
use Rattle.mean.proofs.Steps.{first_finite, first_in}
use Rattle.mean.proofs.Mean.first.Goals as goal

pub returns : goal.returns
returns c =
    record { answered = refl; is_finite = first_finite c.args.v c.ranges.v.fits; is_in_range = first_in c.args.v c.ranges.v.fits }
