-- `mean::is_finite` meets its contract: the library's test is the definition's.
-- Assumes nothing.
use mathlib.Core.Path.{◌≡◌, refl, ◌∙◌}
use lib.Ieee.{Float, nan, inf, fin}
use Rattle.std.specs.Float.{float_is_finite}
use Rattle.mean.specs.Mean.{finite}
use Rattle.mean.proofs.is_finite.Goals as goal

same : (x : Float) → float_is_finite x ≡ finite x
unfolding float_is_finite
same nan = refl
same (inf s) = refl
same (fin s m e) = refl

pub returns : goal.returns
returns c = c.is_finite.ensures.value ∙ same c.args.x
