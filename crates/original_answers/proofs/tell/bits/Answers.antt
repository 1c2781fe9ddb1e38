-- `original_answers::tell::bits` is safe: a number is no NaN.
-- Assumes nothing.
use mathlib.Core.Path.{◌≡◌, sym, subst, ◌∙◌}
use mathlib.Core.Bool.{Bool, true, not}
use lib.Dec.{T}
use lib.Ieee.{Float, nan, inf, fin, is_nan}
use Rattle.mean.specs.Mean.{finite}
use Rattle.original_answers.proofs.tell.bits.Goals as goal

no_nan : (x : Float) → finite x ≡ true → T (not (is_nan x))
unfolding is_nan
no_nan nan h = subst (λ (b : Bool). T b) (sym h) tt
no_nan (inf s) h = tt
no_nan (fin s m e) h = tt

pub float_to_bits-result : goal.float_to_bits-result
float_to_bits-result c = no_nan c.args.x (sym c.is_finite.ensures ∙ c.if-is_finite.true)
