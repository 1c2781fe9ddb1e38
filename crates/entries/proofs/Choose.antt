-- Reasoning about what a test chose. A statement about `cond test x y` is proved from one proof for each arm, which is handed what holds there.
-- Assumes nothing.
use mathlib.Core.Path.{◌≡◌}
use Prim.Native.Nat.{ℕ, ◌≤◌, ◌<◌}
use mathlib.Core.Bool.{Bool, true, false, not, cond, ◌&&◌}
use lib.Dec.{T, leb, ltb, ltb→lt, nltb→le, leb→le, nleb→lt}
use borrow.Author.Tests.{lt-ltb, le-ltb}

pub cond_cases {ℓ κ} : {X : Type ℓ} (P : X → Type κ) (b : Bool) {x y : X} → (T b → P x) → (T (not b) → P y) → P (cond b x y)
cond_cases P true f g = f tt
cond_cases P false f g = g tt

pub lt-cases {ℓ κ} : {X : Type ℓ} (P : X → Type κ) (a b : ℕ) {x y : X} → (a < b → P x) → (b ≤ a → P y) → P (cond (ltb a b) x y)
lt-cases P a b f g = cond_cases P (ltb a b) (λ t. f (ltb→lt a b t)) (λ t. g (nltb→le a b t))

pub le-cases {ℓ κ} : {X : Type ℓ} (P : X → Type κ) (a b : ℕ) {x y : X} → (a ≤ b → P x) → (b < a → P y) → P (cond (leb a b) x y)
le-cases P a b f g = cond_cases P (leb a b) (λ t. f (leb→le a b t)) (λ t. g (nleb→lt a b t))

-- the first arm of a conjunction knows its first test; the second arm knows nothing
pub both-cases {ℓ κ} : {X : Type ℓ} (P : X → Type κ) (a b : ℕ) (c : Bool) {x y : X} → (a < b → P x) → P y → P (cond (ltb a b && c) x y)
both-cases P a b c {x} {y} f g = go (ltb a b) (λ t. f (ltb→lt a b t))
  where
    go : (t : Bool) → (T t → P x) → P (cond (t && c) x y)
    go true h = cond_cases P c (λ _. h tt) (λ _. g)
    go false h = g

-- one order or the other
pub by_order {ℓ} : {X : Type ℓ} (a b : ℕ) → (a < b → X) → (b ≤ a → X) → X
by_order {X = X} a b f g = go (ltb a b) (λ t. ltb→lt a b t) (λ t. nltb→le a b t)
  where
    go : (t : Bool) → (T t → a < b) → (T (not t) → b ≤ a) → X
    go true h k = f (h tt)
    go false h k = g (k tt)

pub cond-lt {ℓ} : {X : Type ℓ} (a b : ℕ) (x y : X) → a < b → cond (ltb a b) x y ≡ x
cond-lt a b x y h = rw (lt-ltb a b h)

pub cond-ge {ℓ} : {X : Type ℓ} (a b : ℕ) (x y : X) → b ≤ a → cond (ltb a b) x y ≡ y
cond-ge a b x y h = rw (le-ltb a b h)
