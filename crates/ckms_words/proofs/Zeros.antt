-- The zero whose bits are all 0 is the one that equals 0 and has one over it above 0.
-- Assumes nothing.
use mathlib.Core.Path.{◌≡◌, refl, sym, ◌∙◌}
use Prim.Native.Nat.{ℕ, zero, suc, ◌*◌, ◌≤◌}
use mathlib.Core.Bool.{Bool, true, false, and-eq-true_iff}
use native.Mathlib.Omega.{arith}
use borrow.Author.Tests.{eqb-true, eq-eqb, ne_eqb}
use lib.Dec.{eqb}
use lib.IntN.{ℤ, pos, negsuc}
use lib.Pow.{pow_pos}
use lib.Ieee.{Float, nan, inf, fin, binary64, up, down, eq, lt, div, of_bits}
use Rattle.ckms_words.specs.Ckmses.{plus_zero}

up_positive : (e : ℤ) → 1 ≤ up e
up_positive (pos k) = pow_pos k
up_positive (negsuc k) = omega arith

-- a number above 0 does not equal it
not_level : (m : ℕ) (e : ℤ) → suc m * up e * 1 ≡ 0 * down e → ⊥
not_level m e q = omega (arith, up_positive e, q)

above : (s : Bool) (m : ℕ) (e : ℤ) → eq (fin s (suc m) e) (of_bits binary64 0) ≡ true → ⊥
unfolding eq of_bits
above s m e h = not_level m e (eqb-true (suc m * up e * 1) (0 * down e) ((and-eq-true_iff (eqb (suc m * up e * 1) (0 * down e)) _).0 h).0)

zeros_level : (e : ℤ) → eq (fin false zero e) (of_bits binary64 0) ≡ true
unfolding eq of_bits
zeros_level e = rw (eq-eqb (0 * up e * 1) (0 * down e) (omega arith))

-- what equals 0 is a zero, and one over it has its sign
pub a_zero : (x : Float) → eq x (of_bits binary64 0) ≡ true
    → lt (of_bits binary64 0) (div binary64 (of_bits binary64 4607182418800017408) x) ≡ plus_zero x
unfolding lt div of_bits
a_zero nan h = refl
a_zero (inf true) h = refl
a_zero (inf false) h = refl
a_zero (fin true zero e) h = refl
a_zero (fin false zero e) h = refl
a_zero (fin s (suc m) e) h = absurd (above s m e h)

-- what does not equal 0 is no zero
pub no_zero : (x : Float) → eq x (of_bits binary64 0) ≡ false → false ≡ plus_zero x
no_zero nan h = refl
no_zero (inf s) h = refl
no_zero (fin true m e) h = refl
no_zero (fin false zero e) h = sym (sym (zeros_level e) ∙ h)
no_zero (fin false (suc m) e) h = sym (ne_eqb (suc m) 0 (λ z. omega arith))
