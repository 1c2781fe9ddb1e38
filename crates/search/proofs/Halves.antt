-- A sorted list of places cut in two: what the search in one half says of the whole.
-- Assumes nothing.
use mathlib.Core.Path.{◌≡◌, ap, sym, ◌∙◌, subst}
use Prim.Native.Nat.{ℕ, ◌+◌, ◌-◌, ◌≤◌, ◌<◌}
use mathlib.Core.List.{List, map}
use native.Mathlib.Omega.{arith}
use lib.ListN.{length, get_or, take, drop}
use Rattle.entries.specs.Entry.{values}
use Rattle.entries.specs.declared.Entry.{Entry}
use Rattle.entries.specs.Place.{place}
use Rattle.entries.specs.Ranks.{Rising}
use Rattle.entries.proofs.Maps.{map_take, map_drop}
use Rattle.entries.proofs.Places.{place_le, place_front, place_passed, rising_order, rising_take, rising_drop, part_end}
use Rattle.entries.proofs.Points.{length_values_by}

module _ {X : Type 0} (entry : X → Entry) (xs : List X) (k : ℕ) where
  values_front : values (map entry (take k xs)) ≡ take k (values (map entry xs))
  values_front = ap values (map_take entry k xs) ∙ map_take (λ e. e.v) k (map entry xs)

  values_back : values (map entry (take (length xs - k) (drop k xs))) ≡ drop k (values (map entry xs))
  values_back = ap (λ ys. values (map entry ys)) (part_end xs k) ∙ ap values (map_drop entry k xs) ∙ map_drop (λ e. e.v) k (map entry xs)

  pub front_rising : Rising 0 (values (map entry xs)) → Rising 0 (values (map entry (take k xs)))
  front_rising r = subst (Rising 0) (sym values_front) (rising_take 0 (values (map entry xs)) k r)

  pub back_rising : Rising 0 (values (map entry xs)) → Rising 0 (values (map entry (take (length xs - k) (drop k xs))))
  back_rising r = subst (Rising 0) (sym values_back) (rising_drop 0 (values (map entry xs)) k r)

  module _ (x : ℕ) (h : k < length xs) where
    -- where the value at k is greater, the place lies in the front half
    pub in_front : x < get_or (values (map entry xs)) k 0 → place x (values (map entry (take k xs))) ≡ place x (values (map entry xs))
    in_front g = ap (place x) values_front ∙ place_front x (values (map entry xs)) k (omega (arith, length_values_by entry xs)) g

    -- where it is not, the place lies in the back half, k further on
    module _ (r : Rising 0 (values (map entry xs))) (g : get_or (values (map entry xs)) k 0 ≤ x) where
      pub in_back : k + place x (values (map entry (take (length xs - k) (drop k xs)))) ≡ place x (values (map entry xs))
      in_back =
          let vs = values (map entry xs) in
          let l = length_values_by entry xs in
          ap (λ (ys : List ℕ). k + place x ys) values_back
          ∙ place_passed x vs k (omega (arith, l)) (λ i b. omega (arith, rising_order 0 vs r i k (omega arith) (omega (arith, l))))

      pub in_back_le : k + place x (values (map entry (take (length xs - k) (drop k xs)))) ≤ length xs
      in_back_le = omega (arith, in_back, place_le x (values (map entry xs)), length_values_by entry xs)
