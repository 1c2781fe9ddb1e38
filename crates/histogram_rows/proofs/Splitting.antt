-- Bins split by a bound: what is up to it and what is above it are all, what is between two bounds is a difference, and none is more than all.
-- Assumes nothing.
use mathlib.Core.Path.{◌≡◌, refl, sym, ap, ◌∙◌}
use Prim.Native.Nat.{ℕ, suc, ◌+◌, ◌≤◌}
use mathlib.Core.Bool.{Bool, true, false, not, cond, ◌&&◌}
use mathlib.Core.List.{List, [], ◌∷◌}
use native.Mathlib.Omega.{arith}
use lib.ListN.{length}
use Rattle.entries.specs.Total.{total}
use Rattle.entries.proofs.Choose.{cond_cases}
use Rattle.histogram_rows.specs.declared.Bound.{Bound}
use Rattle.histogram_rows.specs.declared.Bound.TheVariants.{Finite, PosInf}
use Rattle.histogram_rows.specs.Bounds.{at_most}
use Rattle.histogram_rows.specs.Bins.{chosen, total_below, total_above, bins_between, total_between}
use Rattle.histogram_rows.specs.Laws.{BetweenIsDifference}
use Rattle.histogram_rows.proofs.Choosing.{passes_up}

-- a test and its opposite choose all
all_chosen : (test : Bound → Bool) (bs cs : List ℕ) → length cs ≡ suc (length bs)
    → total (chosen test bs cs) + total (chosen (λ b. not (test b)) bs cs) ≡ total cs
all_chosen test bs [] e = absurd (omega arith)
all_chosen test [] (c ∷ []) e = go (test PosInf)
  where
    go : (t : Bool) → total (cond t (c ∷ []) []) + total (cond (not t) (c ∷ []) []) ≡ total (c ∷ [])
    go true = omega arith
    go false = omega arith
all_chosen test [] (c ∷ (d ∷ cs)) e = absurd (omega arith)
all_chosen test (b ∷ bs) (c ∷ cs) e = go (test (Finite b)) (all_chosen test bs cs (omega arith))
  where
    yes : List ℕ
    yes = chosen test bs cs

    no : List ℕ
    no = chosen (λ b. not (test b)) bs cs

    go : (t : Bool) → total yes + total no ≡ total cs → total (cond t (c ∷ yes) yes) + total (cond (not t) (c ∷ no) no) ≡ total (c ∷ cs)
    go true h = omega arith
    go false h = omega arith

pub below_and_above : (bs cs : List ℕ) (b : Bound) → length cs ≡ suc (length bs) → total_below bs cs b + total_above bs cs b ≡ total cs
below_and_above bs cs b e = all_chosen (λ c. at_most c b) bs cs e

-- what is chosen is no more than all
chosen_le : (test : Bound → Bool) (bs cs : List ℕ) → total (chosen test bs cs) ≤ total cs
chosen_le test bs [] = omega arith
chosen_le test [] (c ∷ cs) =
    cond_cases (λ (l : List ℕ). total l ≤ total (c ∷ cs)) (test PosInf) (λ _. omega arith) (λ _. omega arith)
chosen_le test (b ∷ bs) (c ∷ cs) =
    let h : total (chosen test bs cs) ≤ total cs = chosen_le test bs cs in
    cond_cases (λ (l : List ℕ). total l ≤ total (c ∷ cs)) (test (Finite b)) (λ _. omega arith) (λ _. omega arith)

module _ (bs cs : List ℕ) where
  pub below_le_all : (u : Bound) → total_below bs cs u ≤ total cs
  below_le_all u = chosen_le (λ b. at_most b u) bs cs

  pub above_le_all : (l : Bound) → total_above bs cs l ≤ total cs
  above_le_all l = chosen_le (λ b. not (at_most b l)) bs cs

  between-le-all : (l u : Bound) → total_between bs cs l u ≤ total cs
  between-le-all l u =
      cond_cases (λ (k : List ℕ). total k ≤ total cs) (at_most u l) (λ _. omega arith) (λ _. chosen_le (λ b. not (at_most b l) && at_most b u) bs cs)

  -- the sum of the part that was handed back
  pub between_told : (l u : Bound) (part : List ℕ) (n : ℕ) → part ≡ bins_between bs cs l u → n ≡ total part
      → (n ≡ total_between bs cs l u) × (n ≤ total cs)
  between_told l u part n p q = let e : n ≡ total_between bs cs l u = q ∙ ap total p in (e, omega (arith, between-le-all l u))

-- where one test implies another, what the other adds is chosen by both
more_chosen : (one two : Bound → Bool) → ((b : Bound) → one b ≡ true → two b ≡ true) → (bs cs : List ℕ)
    → total (chosen one bs cs) + total (chosen (λ b. not (one b) && two b) bs cs) ≡ total (chosen two bs cs)
more_chosen one two f bs [] = refl
more_chosen one two f [] (c ∷ cs) = go (one PosInf) (two PosInf) (f PosInf)
  where
    go : (s t : Bool) → (s ≡ true → t ≡ true) → total (cond s (c ∷ []) []) + total (cond (not s && t) (c ∷ []) []) ≡ total (cond t (c ∷ []) [])
    go true true g = omega arith
    go true false g = absurd (cc (g refl))
    go false true g = omega arith
    go false false g = omega arith
more_chosen one two f (b ∷ bs) (c ∷ cs) = go (one (Finite b)) (two (Finite b)) (f (Finite b)) (more_chosen one two f bs cs)
  where
    first : List ℕ
    first = chosen one bs cs

    then : List ℕ
    then = chosen (λ b. not (one b) && two b) bs cs

    last : List ℕ
    last = chosen two bs cs

    go : (s t : Bool) → (s ≡ true → t ≡ true) → total first + total then ≡ total last
        → total (cond s (c ∷ first) first) + total (cond (not s && t) (c ∷ then) then) ≡ total (cond t (c ∷ last) last)
    go true true g h = omega arith
    go true false g h = absurd (cc (g refl))
    go false true g h = omega arith
    go false false g h = omega arith

-- two bounds that are at most each other are the same
same_bound : (l u : Bound) → at_most l u ≡ true → at_most u l ≡ true → (b : Bound) → at_most b u ≡ at_most b l
same_bound l u p q b = go (at_most b u) (at_most b l) refl refl
  where
    go : (s t : Bool) → at_most b u ≡ s → at_most b l ≡ t → s ≡ t
    go true true f g = refl
    go true false f g = sym (passes_up b u l q f) ∙ g
    go false true f g = sym f ∙ passes_up b l u p g
    go false false f g = refl

same_chosen : (one two : Bound → Bool) → ((b : Bound) → one b ≡ two b) → (bs cs : List ℕ) → chosen one bs cs ≡ chosen two bs cs
same_chosen one two f bs [] = refl
same_chosen one two f [] (c ∷ cs) = rw (f PosInf)
same_chosen one two f (b ∷ bs) (c ∷ cs) = rw (f (Finite b), same_chosen one two f bs cs)

pub between_is_difference : BetweenIsDifference
unfolding BetweenIsDifference
between_is_difference bs cs l u p = go (at_most u l) refl
  where
    go : (t : Bool) → at_most u l ≡ t
        → total (chosen (λ b. at_most b l) bs cs) + total (cond t [] (chosen (λ b. not (at_most b l) && at_most b u) bs cs))
        ≡ total (chosen (λ b. at_most b u) bs cs)
    go true q =
        let e : total (chosen (λ b. at_most b u) bs cs) ≡ total (chosen (λ b. at_most b l) bs cs) =
        ap total (same_chosen (λ b. at_most b u) (λ b. at_most b l) (same_bound l u p q) bs cs) in
        omega arith
    go false q = more_chosen (λ b. at_most b l) (λ b. at_most b u) (λ b h. passes_up b l u p h) bs cs
