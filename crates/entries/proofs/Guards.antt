-- An answer behind tests: where a test fails its refusal is the answer, else what stands behind it. What an answer says of the tests.
-- Assumes nothing.
use mathlib.Core.Path.{◌≡◌, refl}
use mathlib.Core.Logic.{◌↔◌}
use mathlib.Core.Bool.{Bool, true, false, cond, not, ◌&&◌, and-eq-true_iff}
use Prim.Native.Nat.{ℕ}
use native.Mathlib.Omega.{arith}

-- two answers that differ are not equal: `cc` makes 0 ≡ 1 of it
pub differ : ◌≡◌ {A = ℕ} 0 1 → ⊥
differ z = omega arith

-- two tests that both hold
pub both : (a b : Bool) → a && b ≡ true → (a ≡ true) × (b ≡ true)
both a b h = (and-eq-true_iff a b).0 h

-- one test, where b says that it fails: x is its refusal, and a stands behind it
module _ {A : Type 0} {x a : A} where
  pub refused : (b : Bool) → cond b x a ≡ x → (a ≡ x → ⊥) → b ≡ true
  refused true e n = refl
  refused false e n = absurd (n e)

  pub passed : {v : A} (b : Bool) → cond b x a ≡ v → (x ≡ v → ⊥) → (b ≡ false) × (a ≡ v)
  passed true e n = absurd (n e)
  passed false e n = (refl, e)

  -- the same, where p says that it holds
  pub unmet : (p : Bool) → cond (not p) x a ≡ x → (a ≡ x → ⊥) → p ≡ false
  unmet false e n = refl
  unmet true e n = absurd (n e)

  pub met : {v : A} (p : Bool) → cond (not p) x a ≡ v → (x ≡ v → ⊥) → (p ≡ true) × (a ≡ v)
  met false e n = absurd (n e)
  met true e n = (refl, e)

  -- an answer that is neither of the two
  pub neither : {v : A} (b : Bool) → (x ≡ v → ⊥) → (a ≡ v → ⊥) → cond b x a ≡ v → ⊥
  neither true m n e = m e
  neither false m n e = n e

-- two tests, where p and q say that they hold: x and y are their refusals
module _ {A : Type 0} {x y a : A} where
  pub both_passed : {v : A} (p q : Bool) → cond (not p) x (cond (not q) y a) ≡ v → (x ≡ v → ⊥) → (y ≡ v → ⊥) → (p ≡ true) × (q ≡ true) × (a ≡ v)
  both_passed false q e m n = absurd (m e)
  both_passed true false e m n = absurd (n e)
  both_passed true true e m n = (refl, refl, e)

  -- a refusal is given exactly when its test is the first that fails
  pub first_refused : (p q : Bool) → (y ≡ x → ⊥) → (p ≡ true → q ≡ true → a ≡ x → ⊥) → cond (not p) x (cond (not q) y a) ≡ x ↔ p ≡ false
  first_refused p q m n = (go p q n, λ h. rw h)
    where
      go : (p q : Bool) → (p ≡ true → q ≡ true → a ≡ x → ⊥) → cond (not p) x (cond (not q) y a) ≡ x → p ≡ false
      go false q n e = refl
      go true false n e = absurd (m e)
      go true true n e = absurd (n refl refl e)

  pub second_refused : (p q : Bool) → (x ≡ y → ⊥) → (p ≡ true → q ≡ true → a ≡ y → ⊥)
      → cond (not p) x (cond (not q) y a) ≡ y ↔ ((p ≡ true) × (q ≡ false))
  second_refused p q m n = (go p q n, λ h. rw (h.0, h.1))
    where
      go : (p q : Bool) → (p ≡ true → q ≡ true → a ≡ y → ⊥) → cond (not p) x (cond (not q) y a) ≡ y → (p ≡ true) × (q ≡ false)
      go false q n e = absurd (m e)
      go true false n e = (refl, refl)
      go true true n e = absurd (n refl refl e)
