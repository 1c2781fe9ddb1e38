-- The laws of the whole numbers taken from a fraction: ⌊f·n⌋, p, e, the period and inv. Assumes nothing.
use mathlib.Core.Path.{◌≡◌, ap, ◌∙◌}
use mathlib.Core.Bool.{true}
use Prim.Native.Nat.{ℕ, zero, suc, ◌+◌, ◌*◌, ◌/◌, ◌^◌, ◌≤◌, ◌<◌, max}
use native.Mathlib.Nat.{le_trans, lt_of_le_of_lt, mul-le-mul, mul-le-mul_left, mul-le-mul_right, mul_assoc, mul_right_comm}
use native.Mathlib.Nat.{div-zero, div-le_self, div-le_of_le-mul, div-mul-le_self, le-div_iff_mul-le, div-lt_iff_lt-mul, lt-mul-div-succ, mul-div-mul_right}
use native.Mathlib.Nat.{le-max_left, le-max_right, max-le}
use native.Mathlib.Omega.{arith}
use Rattle.fraction.specs.declared.Fraction.{Fraction}
use Rattle.fraction.specs.Allowed.{is_phi, is_epsilon, is_error}
use Rattle.fraction.specs.Products.{floor_mul, p_of, e_of, period}
use Rattle.fraction.specs.Inv.{inv, inv_at}
use Rattle.fraction.proofs.Tests.{phi_facts, epsilon_facts, error_facts}

-- a quotient grows with the number that is divided; the divisor may be 0
pub div_mono : (d : ℕ) {a b : ℕ} → a ≤ b → a / d ≤ b / d
div_mono zero {a} {b} h = omega (arith, div-zero a, div-zero b)
div_mono (suc d) {a} h = (le-div_iff_mul-le {k = suc d} (omega arith)).1 (le_trans (div-mul-le_self a (suc d)) h)

-- twice a number, divided, is at most twice the quotient and 1 more
pub div_twice : (d a : ℕ) → 2 * a / d ≤ 2 * (a / d) + 1
div_twice zero a = omega (arith, div-zero (2 * a))
div_twice (suc d) a =
    let pos : 0 < suc d = omega arith in
    let q : 2 * a / suc d < 2 * (a / suc d) + 2 = (div-lt_iff_lt-mul pos).1 (omega (arith, lt-mul-div-succ a pos)) in
    omega arith

-- the larger of 1 and a number grows with the number
max_mono : {a b : ℕ} → a ≤ b → max 1 a ≤ max 1 b
max_mono {a} {b} h = max-le (le-max_left 1 b) (le_trans h (le-max_right 1 b))

-- a product fits 64 bits where the product of two bounds does
pub product_fits : (m n : ℕ) {a b : ℕ} → a ≤ m → b ≤ n → m * n < 2 ^ 64 → a * b < 2 ^ 64
product_fits m n h k s = lt_of_le_of_lt (mul-le-mul h k) s

-- p is at most 2e + 1
pub p_twice : (ε : Fraction) (n : ℕ) → p_of ε n ≤ 2 * e_of ε n + 1
p_twice ε n = rw (mul_assoc 2 ε.num n) (div_twice ε.den (ε.num * n))

-- p of an allowed ε is at most n
pub p_le : (ε : Fraction) (n : ℕ) → is_epsilon ε ≡ true → p_of ε n ≤ n
p_le ε n h = div-le_of_le-mul ε.den (mul-le-mul_right n (epsilon_facts ε h).2)

-- ⌊φn⌋ of an allowed φ, and so e of an allowed ε, is at most n
pub e_le : (f : Fraction) (n : ℕ) → is_phi f ≡ true → e_of f n ≤ n
e_le f n h = div-le_of_le-mul f.den (mul-le-mul_right n (phi_facts f h).2)

-- the period of an allowed ε is at least 1
pub period_pos : (ε : Fraction) → is_epsilon ε ≡ true → 1 ≤ period ε
period_pos ε h =
    let a = epsilon_facts ε h in
    (le-div_iff_mul-le {k = 2 * ε.num} (omega arith)).1 (omega arith)

-- the period is at most the denominator
pub period_le : (ε : Fraction) → period ε ≤ ε.den
period_le ε = div-le_self ε.den (2 * ε.num)

-- inv is at least 1
pub inv_pos : (f : Fraction) (x : ℕ) → 1 ≤ inv f x
inv_pos f x = le-max_left 1 (2 * f.num * x / f.den)

-- inv at q·n is at least 1
pub inv_at_pos : (f q : Fraction) (n : ℕ) → 1 ≤ inv_at f q n
inv_at_pos f q n = le-max_left 1 (2 * f.num * q.num * n / (f.den * q.den))

-- inv of an allowed error at x is at most 2x + 1
pub inv_le : (f : Fraction) (x : ℕ) → is_error f ≡ true → inv f x ≤ 2 * x + 1
inv_le f x h =
    let b : f.num * (2 * x) ≤ f.den * (2 * x) = mul-le-mul_right (2 * x) (phi_facts f (error_facts f h).0).2 in
    max-le (omega arith) (le_trans (div-le_of_le-mul f.den {n = 2 * x} (omega arith)) (omega arith))

-- inv at q·n of an allowed error and an allowed q is at most 2n + 1
pub inv_at_le : (f q : Fraction) (n : ℕ) → is_error f ≡ true → is_phi q ≡ true → inv_at f q n ≤ 2 * n + 1
inv_at_le f q n h p =
    let both : f.num * q.num ≤ f.den * q.den = mul-le-mul (phi_facts f (error_facts f h).0).2 (phi_facts q p).2 in
    max-le (omega arith) (le_trans (div-le_of_le-mul (f.den * q.den) {n = 2 * n} (omega (arith, mul-le-mul_right (2 * n) both))) (omega arith))

-- inv of an allowed error at a 32-bit x fits 33 bits
pub inv_small : (f : Fraction) (x : ℕ) → is_error f ≡ true → x < 2 ^ 32 → inv f x < 2 ^ 33
inv_small f x h s = omega (arith, inv_le f x h)

-- at q = 1, of any denominator, inv at q·n is inv at n
pub inv_whole : (f q : Fraction) (n : ℕ) → 1 ≤ q.den → q.num ≡ q.den → inv_at f q n ≡ inv f n
inv_whole f q n h e =
    ap (λ (k : ℕ). max 1 (2 * f.num * k * n / (f.den * q.den))) e
    ∙ ap (λ (k : ℕ). max 1 (k / (f.den * q.den))) (mul_right_comm (2 * f.num) q.den n)
    ∙ ap (λ (k : ℕ). max 1 k) (mul-div-mul_right (2 * f.num * n) f.den h)

-- ⌊f·n⌋ grows with n
pub floor_mono : (f : Fraction) {n m : ℕ} → n ≤ m → floor_mul f n ≤ floor_mul f m
floor_mono f h = div_mono f.den (mul-le-mul_left f.num h)

-- p grows with n
pub p_mono : (ε : Fraction) {n m : ℕ} → n ≤ m → p_of ε n ≤ p_of ε m
p_mono ε h = div_mono ε.den (mul-le-mul_left (2 * ε.num) h)

-- inv grows with x
pub inv_mono : (f : Fraction) {x y : ℕ} → x ≤ y → inv f x ≤ inv f y
inv_mono f h = max_mono (div_mono f.den (mul-le-mul_left (2 * f.num) h))

-- inv at q·n grows with n
pub inv_at_mono : (f q : Fraction) {n m : ℕ} → n ≤ m → inv_at f q n ≤ inv_at f q m
inv_at_mono f q h = max_mono (div_mono (f.den * q.den) (mul-le-mul_left (2 * f.num * q.num) h))
