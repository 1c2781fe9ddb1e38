-- The sum that the library's iterator makes is the total.
-- Assumes nothing.
use mathlib.Core.Path.{◌≡◌, refl, ap, ◌∙◌}
use Prim.Native.Nat.{ℕ, ◌+◌}
use mathlib.Core.List.{List, [], ◌∷◌}
use Rattle.std.specs.List.{sum_by}
use Rattle.std.proofs.lemmas.List.Sums.{sum_by-cons}
use Rattle.entries.specs.Total.{total}

pub sum_by_total : (xs : List ℕ) → sum_by (λ x. x) xs ≡ total xs
sum_by_total [] = refl
sum_by_total (x ∷ xs) = sum_by-cons (λ y. y) x xs ∙ ap (λ n. x + n) (sum_by_total xs)
