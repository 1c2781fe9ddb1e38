-- The laws of the logarithm and of the band. Assumes nothing.
use mathlib.Core.Path.{◌≡◌, refl, ap}
use Prim.Native.Nat.{ℕ, zero, suc, ◌+◌, ◌-◌, ◌/◌, ◌^◌, ◌≤◌, ◌<◌}
use native.Mathlib.Nat.{pow-suc, not-le_of_lt}
use native.Mathlib.Omega.{arith}
use lib.Pow.{pow_pos}
use lib.Count.{count_leading_zeros, leading_top}
use Rattle.fraction.specs.Band.{halvings, log2, band}

-- a number from 2 ^ j up to 2 ^ (j + 1) can be halved j times
halvings_is : (k n j : ℕ) → 2 ^ j ≤ n → n < 2 ^ suc j → j ≤ k → halvings k n ≡ j
unfolding halvings
halvings_is zero n j l h b = omega arith
halvings_is (suc k) zero j l h b = absurd (not-le_of_lt (pow_pos j) l)
halvings_is (suc k) (suc zero) zero l h b = refl
halvings_is (suc k) (suc zero) (suc j) l h b = absurd (omega (arith, pow_pos j, pow-suc 2 j))
halvings_is (suc k) (suc (suc n)) zero l h b = absurd (omega arith)
halvings_is (suc k) (suc (suc n)) (suc j) l h b =
    ap suc (halvings_is k (suc (suc n) / 2) j (omega (arith, pow-suc 2 j)) (omega (arith, pow-suc 2 (suc j))) (omega arith))

-- the logarithm is the one j with 2 ^ j ≤ n < 2 ^ (j + 1)
pub log2_unique : (n j : ℕ) → 2 ^ j ≤ n → n < 2 ^ suc j → j ≤ 64 → log2 n ≡ j
log2_unique n j l h b = halvings_is 64 n j l h b

-- the count of a 64-bit number's leading zeros gives its logarithm, and the two powers of 2 that the number lies between
pub leading_log2 : (n : ℕ) → 0 < n → n < 2 ^ 64 → (count_leading_zeros 64 n + suc (log2 n) ≡ 64) × (2 ^ log2 n ≤ n) × (n < 2 ^ suc (log2 n))
leading_log2 n p h =
    let t = leading_top 64 n p h in
    let e : log2 n ≡ t.0 = log2_unique n t.0 t.2 t.3 (omega (arith, t.1)) in
    rw e (t.1, t.2, t.3)

-- a 64-bit number above 0 has at most 63 leading zeros
pub leading_le : {n : ℕ} → 0 < n → n < 2 ^ 64 → count_leading_zeros 64 n ≤ 63
leading_le {n} p h = omega (arith, (leading_log2 n p h).0)

-- the larger number can be halved at least as often
pub halvings_mono : (k : ℕ) {m n : ℕ} → m ≤ n → halvings k m ≤ halvings k n
unfolding halvings
halvings_mono zero h = omega arith
halvings_mono (suc k) {m = zero} h = omega arith
halvings_mono (suc k) {m = suc zero} h = omega arith
halvings_mono (suc k) {m = suc (suc m)} {n = zero} h = absurd (omega arith)
halvings_mono (suc k) {m = suc (suc m)} {n = suc zero} h = absurd (omega arith)
halvings_mono (suc k) {m = suc (suc m)} {n = suc (suc n)} h =
    omega (arith, halvings_mono k {m = suc (suc m) / 2} {n = suc (suc n) / 2} (omega arith))

-- the logarithm grows with the number
pub log2_mono : {m n : ℕ} → m ≤ n → log2 m ≤ log2 n
log2_mono h = halvings_mono 64 h

-- the band falls as delta grows
pub band_falls : (p : ℕ) {d e : ℕ} → d ≤ e → band p e ≤ band p d
band_falls p h = log2_mono (omega arith)

-- at p and past it the band is 0
pub band_zero : {p d : ℕ} → p ≤ d → band p d ≡ 0
band_zero {p} {d} h = log2_unique (p - d + 1) 0 (omega arith) (omega arith) (omega arith)
