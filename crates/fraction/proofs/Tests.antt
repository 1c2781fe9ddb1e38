-- What the three tests of a fraction say, as facts about its two numbers, and back. Assumes nothing.
use mathlib.Core.Path.{◌≡◌}
use mathlib.Core.Bool.{Bool, true, false, ◌&&◌, and-eq-true_iff}
use Prim.Native.Nat.{ℕ, ◌*◌, ◌≤◌, ◌<◌}
use lib.Dec.{leb, ltb}
use borrow.Author.Tests.{leb-true, ltb-true, le-leb, lt-ltb}
use Rattle.fraction.specs.declared.Fraction.{Fraction}
use Rattle.fraction.specs.Allowed.{is_phi, is_epsilon, is_error, denominators, observations, within}

-- an allowed φ or q: the denominator is from 1 to 65,536, and the numerator at most the denominator
pub phi_facts : (f : Fraction) → is_phi f ≡ true → (1 ≤ f.den) × (f.den ≤ 65536) × (f.num ≤ f.den)
phi_facts f h =
    let a = (and-eq-true_iff (leb 1 f.den) (leb f.den denominators && leb f.num f.den)).0 h in
    let b = (and-eq-true_iff (leb f.den denominators) (leb f.num f.den)).0 a.1 in
    (leb-true 1 f.den a.0, leb-true f.den denominators b.0, leb-true f.num f.den b.1)

-- those facts make it an allowed φ or q
pub facts_phi : (f : Fraction) → 1 ≤ f.den → f.den ≤ 65536 → f.num ≤ f.den → is_phi f ≡ true
facts_phi f a b c = simp (le-leb 1 f.den a, le-leb f.den denominators b, le-leb f.num f.den c)

-- an allowed ε is an allowed φ, above 0 and at most 1/2
pub epsilon_facts : (ε : Fraction) → is_epsilon ε ≡ true → (is_phi ε ≡ true) × (1 ≤ ε.num) × (2 * ε.num ≤ ε.den)
epsilon_facts ε h =
    let a = (and-eq-true_iff (is_phi ε) (leb 1 ε.num && leb (2 * ε.num) ε.den)).0 h in
    let b = (and-eq-true_iff (leb 1 ε.num) (leb (2 * ε.num) ε.den)).0 a.1 in
    (a.0, leb-true 1 ε.num b.0, leb-true (2 * ε.num) ε.den b.1)

-- those facts make it an allowed ε
pub facts_epsilon : (ε : Fraction) → is_phi ε ≡ true → 1 ≤ ε.num → 2 * ε.num ≤ ε.den → is_epsilon ε ≡ true
facts_epsilon ε a b c = simp (a, le-leb 1 ε.num b, le-leb (2 * ε.num) ε.den c)

-- an allowed error is an allowed φ, above 0 and below 1
pub error_facts : (f : Fraction) → is_error f ≡ true → (is_phi f ≡ true) × (1 ≤ f.num) × (f.num < f.den)
error_facts f h =
    let a = (and-eq-true_iff (is_phi f) (leb 1 f.num && ltb f.num f.den)).0 h in
    let b = (and-eq-true_iff (leb 1 f.num) (ltb f.num f.den)).0 a.1 in
    (a.0, leb-true 1 f.num b.0, ltb-true f.num f.den b.1)

-- those facts make it an allowed error
pub facts_error : (f : Fraction) → is_phi f ≡ true → 1 ≤ f.num → f.num < f.den → is_error f ≡ true
facts_error f a b c = simp (a, le-leb 1 f.num b, lt-ltb f.num f.den c)

-- an allowed error, an allowed q and at most 1,000,000,000 observations are what `inv_at` allows
pub facts_inv_at : (f q : Fraction) (n : ℕ) → is_error f ≡ true → is_phi q ≡ true → n ≤ observations → (is_error f && (is_phi q && leb n observations)) ≡ true
facts_inv_at f q n a b c = simp (a, b, le-leb n observations c)

-- a number of allowed arguments is the number
pub within_true : {allowed : Bool} (x : ℕ) → allowed ≡ true → within allowed x ≡ x
within_true x h = rw h

-- a number of arguments that are not allowed is 0
pub within_false : {allowed : Bool} (x : ℕ) → allowed ≡ false → within allowed x ≡ 0
within_false x h = rw h
