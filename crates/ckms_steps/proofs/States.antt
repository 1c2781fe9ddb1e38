-- A truth is `true`; and what the test of a mean says. Assumes nothing.
use mathlib.Core.Path.{◌≡◌, refl, sym, ap, ◌∙◌, subst}
use Prim.Native.Nat.{ℕ, ◌<◌}
use mathlib.Core.Bool.{Bool, true, false}
use lib.Dec.{T}
use Rattle.std.specs.Prelude.{Option, Some}
use borrow.Author.Tests.{lt-ltb}
use Rattle.mean.specs.declared.Mean.{Mean}
use Rattle.mean.specs.Mean.{finite}
use Rattle.ckms_steps.specs.State.{cma_sound}

pub is_true : (b : Bool) → T b → b ≡ true
is_true true t = refl
is_true false t = absurd t

pub true_is : (b : Bool) → b ≡ true → T b
true_is b e = subst T (sym e) tt

-- a mean of something is sound exactly if it is finite: no other fact of this crate tells a test that forgets it
pub mean_sound : (c : Option Mean) (m : Mean) (n : ℕ) → c ≡ Some m → 0 < n → cma_sound n c ≡ finite m.value
mean_sound c m n e h = ap (cma_sound n) e ∙ rw (lt-ltb 0 n h)
