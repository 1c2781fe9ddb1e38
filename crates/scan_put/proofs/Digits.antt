-- The digits that `io::decimal` writes are those of the definition. Assumes nothing.
use mathlib.Core.Path.{◌≡◌, refl, ap, ◌∙◌}
use mathlib.Core.Bool.{Bool, true, false, cond}
use mathlib.Core.List.{List, [], ◌∷◌, ◌++◌}
use Prim.Native.Nat.{ℕ, zero, suc, ◌+◌, ◌-◌, ◌/◌, ◌%◌, ◌^◌, ◌≤◌, ◌<◌}
use native.Mathlib.Nat.{pow-suc, pow-le-pow_right}
use native.Mathlib.Omega.{arith}
use lib.Dec.{ltb, leb}
use lib.ListN.{length, take, length-append}
use borrow.Author.Tests.{lt-ltb, le-ltb, leb-true, leb-false}
use Rattle.io.specs.Digits.{last_digits, IsDigitCount, hex_digit_ascii}
use Rattle.scan_put.specs.Decimal.{digits_of, decimal}

-- a digit's code
glyph_of : (d : ℕ) → d < 10 → hex_digit_ascii d ≡ 48 + d
glyph_of d h = rw (lt-ltb d 10 h)

-- a number below 10 has one digit, and a larger one has one more than its tenth
digits_are : (most k n : ℕ) → k ≤ most → IsDigitCount 10 1 n k → last_digits 10 k n ≡ digits_of most n
unfolding digits_of
digits_are zero k n b f = absurd (omega arith)
digits_are (suc most) zero n b f = absurd (omega arith)
digits_are (suc most) (suc zero) n b f =
    let h : n < 10 = omega arith in
    let e : n % 10 ≡ n = omega arith in
    rw (e, glyph_of n h, lt-ltb n 10 h)
digits_are (suc most) (suc (suc k)) n b f =
    let e : suc (suc k) - 1 ≡ suc k = omega arith in
    let e' : suc k - 1 ≡ k = omega arith in
    let low : 10 ^ suc k ≤ n = rw e at (f.2 (omega arith)) in
    let p = pow-suc 10 k in
    let q = pow-suc 10 (suc k) in
    let one : 1 ≤ 10 ^ k = pow-le-pow_right {n = 10} (omega arith) {i = 0} {j = k} (omega arith) in
    let ten : 10 ≤ n = omega arith in
    let tenth : IsDigitCount 10 1 (n / 10) (suc k) = (omega arith, omega arith, λ _. rw e' (omega arith)) in
    rw (glyph_of (n % 10) (omega arith), le-ltb n 10 ten)
    (ap (λ (l : List ℕ). l ++ ((48 + n % 10) ∷ [])) (digits_are most (suc k) (n / 10) (omega arith) tenth))

-- a u32 has at most ten digits
few_digits : (k n : ℕ) → n < 2 ^ 32 → IsDigitCount 10 1 n k → k ≤ 10
few_digits k n h f = go (leb k 10) refl
  where
    go : (t : Bool) → leb k 10 ≡ t → k ≤ 10
    go true e = leb-true k 10 e
    go false e =
        let b = leb-false k 10 e in
        let low = f.2 (omega arith) in
        let ten : 10 ^ 10 ≤ 10 ^ (k - 1) = pow-le-pow_right {n = 10} (omega arith) {i = 10} {j = k - 1} (omega arith) in
        absurd (omega arith)

pub length_digits : (most n : ℕ) → length (digits_of most n) ≤ most
unfolding digits_of
length_digits zero n = omega arith
length_digits (suc most) n = go (ltb n 10) (length_digits most (n / 10))
  where
    go : (t : Bool) → length (digits_of most (n / 10)) ≤ most
        → length (cond t ((48 + n) ∷ []) (digits_of most (n / 10) ++ ((48 + n % 10) ∷ []))) ≤ suc most
    go true h = omega arith
    go false h = omega (arith, length-append (digits_of most (n / 10)) ((48 + n % 10) ∷ []))

-- what `io::decimal` writes of a u32
pub written : (k n m : ℕ) (out : List ℕ) → m ≡ n → n < 2 ^ 32 → IsDigitCount 10 1 m k → take k out ≡ last_digits 10 k m
    → (k ≤ 10) × (take k out ≡ decimal n)
written k n m out same h f e =
    let g : IsDigitCount 10 1 n k = rw same at f in
    let b = few_digits k n h g in
    (b, e ∙ ap (last_digits 10 k) same ∙ digits_are 10 k n b g)
