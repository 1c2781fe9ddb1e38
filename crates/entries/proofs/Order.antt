-- The order of a list as a test: what the test means.
-- Assumes nothing.
use mathlib.Core.Path.{◌≡◌, refl}
use Prim.Native.Nat.{ℕ}
use mathlib.Core.Bool.{true, and-eq-true_iff}
use mathlib.Core.List.{List, [], ◌∷◌}
use borrow.Author.Tests.{le-leb, leb-true}
use lib.Dec.{leb}
use Rattle.entries.specs.Order.{rising}
use Rattle.entries.specs.Ranks.{Rising}

-- the test says what it tests
pub rising_means : (low : ℕ) (xs : List ℕ) → rising low xs ≡ true → Rising low xs
rising_means low [] t = tt
rising_means low (x ∷ xs) t =
    let a = (and-eq-true_iff (leb low x) (rising x xs)).0 t in (leb-true low x a.0, rising_means x xs a.1)

pub rising_holds : (low : ℕ) (xs : List ℕ) → Rising low xs → rising low xs ≡ true
rising_holds low [] r = refl
rising_holds low (x ∷ xs) r = rw (le-leb low x r.0) (rising_holds x xs r.1)
