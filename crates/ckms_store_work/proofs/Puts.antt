-- An insert keeps the rules. Assumes nothing.
use mathlib.Core.Path.{◌≡◌, refl}
use mathlib.Core.Bool.{true}
use mathlib.Core.List.{List, [], ◌∷◌}
use Prim.Native.Nat.{ℕ, zero, suc, ◌+◌, ◌-◌, ◌≤◌, ◌<◌}
use native.Mathlib.Omega.{arith}
use lib.Dec.{eqb}
use lib.ListN.{length, get_or, set, take, drop, length-take, length-drop, length-map}
use Rattle.fraction.specs.declared.Fraction.{Fraction}
use Rattle.fraction.specs.Allowed.{is_error}
use Rattle.fraction.specs.Inv.{inv}
use Rattle.entries.specs.declared.Entry.{Entry}
use Rattle.entries.specs.Entry.{entry, values, sum_g}
use Rattle.entries.specs.Lists.{put_at}
use Rattle.entries.specs.Ranks.{below}
use Rattle.entries.proofs.Choose.{cond_cases, lt-cases}
use Rattle.entries.proofs.Layouts.{length_put}
use Rattle.entries.proofs.Maps.{map_put_at}
use Rattle.entries.proofs.Parts.{below_le, sum_cut}
use Rattle.entries.proofs.Puts.{sum_put, rising_put}
use Rattle.entries.proofs.Totals.{total_set, total_put}
use Rattle.ckms_theory.specs.Blocks.{total, last_of, block_of, rank_of, grown}
use Rattle.fraction.proofs.Laws.{inv_le}
use Rattle.ckms_store_steps.specs.Held.{Held}
use Rattle.ckms_store_steps.specs.Limits.{observations, deltas}
use Rattle.ckms_store_steps.specs.Sound.{EachCounts, EachFits}
use Rattle.ckms_store_work.specs.Changes.{place_of, new_delta, put}
use Rattle.ckms_store_steps.proofs.Sounds.{count_least}
use Rattle.ckms_store_steps.proofs.Kept.{Kept}

each_put : (k : ℕ) (e : Entry) (es : List Entry) → EachCounts es → 1 ≤ e.g → e.delta ≤ deltas → EachCounts (put_at k e es)
each_put zero e es c a b = (a, b, c)
each_put (suc k) e [] c a b = (a, b, tt)
each_put (suc k) e (f ∷ fs) c a b = (c.0, c.1, each_put k e fs c.2 a b)

-- r counts no entry more than twice
below_take : (a x : ℕ) (es : List Entry) → below (values (take a es)) x ≤ length es
below_take a x es = omega (arith, below_le (values (take a es)) x, length-map (take a es) (λ (e : Entry). e.v), length-take a es)

rank_le : (x : ℕ) (es : List Entry) (a : ℕ) (ls : List ℕ) → rank_of x es (a ∷ ls) ≤ sum_g (drop a es) + length es
unfolding rank_of
rank_le x es a [] = omega (arith, below_take a x es)
rank_le x es a (b ∷ ls) =
    lt-cases (λ (r : ℕ). r ≤ sum_g (drop a es) + length es) (last_of a es) x
    (λ h. omega (arith, rank_le x (drop a es) b ls, sum_cut (drop a es) b, length-drop a es))
    (λ h. omega (arith, below_take a x es))

pub rank_small : (x : ℕ) (es : List Entry) (ls : List ℕ) → rank_of x es ls ≤ sum_g es + length es
unfolding rank_of
rank_small x es [] = omega arith
rank_small x es (a ∷ ls) = omega (arith, rank_le x es a ls, sum_cut es a)

-- a block grows by one
fits_set : (size b : ℕ) (ls : List ℕ) → EachFits size ls → get_or ls b 0 < size → EachFits size (set ls b (suc (get_or ls b 0)))
fits_set size b [] f h = tt
fits_set size zero (a ∷ ls) f h = (omega arith, h, f.2)
fits_set size (suc b) (a ∷ ls) f h = (f.0, f.1, fits_set size b ls f.2 h)

fits_put : (size k : ℕ) (ls : List ℕ) → 1 ≤ size → EachFits size ls → EachFits size (put_at k 1 ls)
fits_put size zero ls p f = (omega arith, p, f)
fits_put size (suc k) [] p f = (omega arith, p, tt)
fits_put size (suc k) (a ∷ ls) p f = (f.0, f.1, fits_put size k ls p f.2)

-- the block that x goes to is there
pub block_inside : (x : ℕ) (es : List Entry) (a : ℕ) (ls : List ℕ) → block_of x es (a ∷ ls) ≤ length ls
unfolding block_of
block_inside x es a [] = omega arith
block_inside x es a (b ∷ ls) =
    lt-cases (λ (k : ℕ). k ≤ suc (length ls)) (last_of a es) x (λ h. omega (arith, block_inside x (drop a es) b ls)) (λ h. omega arith)

grown_keeps : (size x : ℕ) (es : List Entry) (ls : List ℕ) → 1 ≤ size → EachFits size ls
    → EachFits size (grown size (block_of x es ls) ls) × (total (grown size (block_of x es ls) ls) ≡ suc (total ls))
unfolding grown
grown_keeps size x es [] p f = ((omega arith, p, tt), refl)
grown_keeps size x es (a ∷ ls) p f =
    let b : ℕ = block_of x es (a ∷ ls) in
    lt-cases (λ (l : List ℕ). EachFits size l × (total l ≡ suc (total (a ∷ ls)))) (get_or (a ∷ ls) b 0) size
    (λ h. (fits_set size b (a ∷ ls) f h, total_set b (a ∷ ls) (omega (arith, block_inside x es a ls))))
    (λ h. (fits_put size (suc b) (a ∷ ls) p f, omega (arith, total_put (suc b) 1 (a ∷ ls))))

delta_small : (error : Fraction) (size n x : ℕ) (h : Held) → is_error error ≡ true → n < observations → Kept size n h → new_delta error x h ≤ deltas
unfolding new_delta
delta_small error size n x h e l k =
    cond_cases (λ (d : ℕ). d ≤ deltas) (eqb (place_of x h) 0) {x = 0} (λ _. omega arith)
    (λ _. cond_cases (λ (d : ℕ). d ≤ deltas) (eqb (place_of x h) (length h.entries)) {x = 0} {y = inv error (rank_of x h.entries h.blocks) - 1} (λ _. omega arith)
    (λ _. omega (arith, inv_le error (rank_of x h.entries h.blocks) e, rank_small x h.entries h.blocks, count_least h.entries k.each, k.summed)))

pub put_kept : (error : Fraction) (size n x : ℕ) (h : Held) → is_error error ≡ true → 1 ≤ size → n < observations → Kept size n h → Kept size (suc n) (put error size x h)
unfolding put
put_kept error size n x h e p l k =
    let d : ℕ = new_delta error x h in
    let g = grown_keeps size x h.entries h.blocks p k.blocks in
    record {
      sorted = rw (map_put_at (λ (e : Entry). e.v) (place_of x h) (entry x 1 d) h.entries) (rising_put 0 x (values h.entries) k.sorted (omega arith));
      each = each_put (place_of x h) (entry x 1 d) h.entries k.each (omega arith) (delta_small error size n x h e l k);
      summed = omega (arith, sum_put (place_of x h) (entry x 1 d) h.entries, k.summed);
      blocks = g.0;
      all = omega (arith, g.1, k.all, length_put (place_of x h) (entry x 1 d) h.entries);
    }
