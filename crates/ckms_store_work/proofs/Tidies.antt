-- A compression keeps the rules. Assumes nothing.
use mathlib.Core.Path.{◌≡◌, refl, ap, ◌∙◌}
use mathlib.Core.List.{List, [], ◌∷◌}
use mathlib.Core.Bool.{Bool, true, false, cond}
use Prim.Native.Nat.{ℕ, zero, suc, ◌+◌, ◌≤◌}
use native.Mathlib.Omega.{arith}
use lib.Dec.{leb}
use lib.ListN.{length, take, drop}
use lib.Seq.{take_all}
use Rattle.fraction.specs.declared.Fraction.{Fraction}
use Rattle.fraction.specs.Inv.{inv}
use Rattle.entries.specs.declared.Entry.{Entry}
use Rattle.entries.specs.Entry.{values, sum_g}
use Rattle.entries.specs.Ranks.{Rising}
use Rattle.entries.proofs.Choose.{lt-cases, le-cases}
use Rattle.entries.proofs.Totals.{total_cut}
use Rattle.ckms_theory.specs.Blocks.{total}
use Rattle.ckms_theory.specs.Squash.{step_rank, merged, squash, stays, squashed, marks, kept}
use Rattle.ckms_theory.specs.Join.{join, joined}
use Rattle.ckms_store_steps.specs.Held.{Held}
use Rattle.ckms_store_steps.specs.Sound.{EachCounts, EachFits}
use Rattle.ckms_store_work.specs.Changes.{tidy}
use Rattle.ckms_store_steps.proofs.Kept.{Kept}

-- each number is at most `most`
abbrev pub AtMost : ℕ → List ℕ → Type 0
AtMost most [] = Unit {0}
AtMost most (a ∷ ls) = (a ≤ most) × AtMost most ls

-- the squash keeps the order, the counts and their sum
module _ (error : Fraction) where
  squash-rising : (low i : ℕ) (c : Entry) (us : List Entry) → Rising low (values (c ∷ us)) → Rising low (values (squash error i c us))
  unfolding squash
  squash-rising low i c [] r = r
  squash-rising low i c (u ∷ us) r =
      le-cases (λ (l : List Entry). Rising low (values l)) (c.g + u.g + u.delta) (inv error (step_rank i))
      (λ h. squash-rising low (suc i) (merged c u) us (omega arith, r.1.1))
      (λ h. (r.0, squash-rising c.v (suc i) u us r.1))

  squash-each : (i : ℕ) (c : Entry) (us : List Entry) → EachCounts (c ∷ us) → EachCounts (squash error i c us)
  unfolding squash
  squash-each i c [] e = e
  squash-each i c (u ∷ us) e =
      le-cases EachCounts (c.g + u.g + u.delta) (inv error (step_rank i))
      (λ h. squash-each (suc i) (merged c u) us (omega arith, e.2.1, e.2.2))
      (λ h. (e.0, e.1, squash-each (suc i) u us e.2))

  squash-sum : (i : ℕ) (c : Entry) (us : List Entry) → sum_g (squash error i c us) ≡ sum_g (c ∷ us)
  unfolding squash
  squash-sum i c [] = refl
  squash-sum i c (u ∷ us) =
      le-cases (λ (l : List Entry). sum_g l ≡ sum_g (c ∷ (u ∷ us))) (c.g + u.g + u.delta) (inv error (step_rank i))
      (λ h. omega (arith, squash-sum (suc i) (merged c u) us))
      (λ h. omega (arith, squash-sum (suc i) u us))

  -- what is left is counted by the marks: one for each entry, 0 or 1
  squash-length : (i : ℕ) (c : Entry) (us : List Entry) → length (squash error i c us) ≡ suc (total (stays error i c us))
  unfolding squash stays
  squash-length i c [] = refl
  squash-length i c (u ∷ us) =
      go (leb (c.g + u.g + u.delta) (inv error (step_rank i))) (squash-length (suc i) (merged c u) us) (squash-length (suc i) u us)
    where
      go : (t : Bool) → length (squash error (suc i) (merged c u) us) ≡ suc (total (stays error (suc i) (merged c u) us)) → length (squash error (suc i) u us) ≡ suc (total (stays error (suc i) u us))
          → length (cond t (squash error (suc i) (merged c u) us) (c ∷ squash error (suc i) u us)) ≡ suc (total (cond t (0 ∷ stays error (suc i) (merged c u) us) (1 ∷ stays error (suc i) u us)))
      go true a b = omega arith
      go false a b = omega arith

  stays-length : (i : ℕ) (c : Entry) (us : List Entry) → length (stays error i c us) ≡ length us
  unfolding stays
  stays-length i c [] = refl
  stays-length i c (u ∷ us) =
      le-cases (λ (l : List ℕ). length l ≡ suc (length us)) (c.g + u.g + u.delta) (inv error (step_rank i))
      (λ h. ap suc (stays-length (suc i) (merged c u) us))
      (λ h. ap suc (stays-length (suc i) u us))

  stays-small : (i : ℕ) (c : Entry) (us : List Entry) → AtMost 1 (stays error i c us)
  unfolding stays
  stays-small i c [] = tt
  stays-small i c (u ∷ us) =
      le-cases (AtMost 1) (c.g + u.g + u.delta) (inv error (step_rank i))
      (λ h. (omega arith, stays-small (suc i) (merged c u) us))
      (λ h. (omega arith, stays-small (suc i) u us))

-- each block keeps no more than it had
sum_small : (ms : List ℕ) (a : ℕ) → AtMost 1 ms → total (take a ms) ≤ a
sum_small ms zero f = omega arith
sum_small [] (suc a) f = omega arith
sum_small (m ∷ ms) (suc a) f = omega (arith, sum_small ms a f.1)

drop_small : (most : ℕ) (ms : List ℕ) (a : ℕ) → AtMost most ms → AtMost most (drop a ms)
drop_small most ms zero f = f
drop_small most [] (suc a) f = tt
drop_small most (m ∷ ms) (suc a) f = drop_small most ms a f.1

kept_small : (size : ℕ) (ms ls : List ℕ) → AtMost 1 ms → EachFits size ls → AtMost size (kept ms ls)
unfolding kept
kept_small size ms [] m f = tt
kept_small size ms (a ∷ ls) m f = (omega (arith, sum_small ms a m, f.1), kept_small size (drop a ms) ls (drop_small 1 ms a m) f.2)

-- all marks are counted, block by block
kept_total : (ms ls : List ℕ) → total (kept ms ls) ≡ total (take (total ls) ms)
unfolding kept
kept_total ms [] = refl
kept_total ms (a ∷ ls) = omega (arith, kept_total (drop a ms) ls, total_cut ms a (total ls))

-- joining keeps the sum, and leaves no block empty
join_total : (size a : ℕ) (ls : List ℕ) → total (join size a ls) ≡ a + total ls
unfolding join
join_total size a [] = refl
join_total size a (b ∷ ls) =
    le-cases (λ (l : List ℕ). total l ≡ a + (b + total ls)) (a + b) size
    (λ h. omega (arith, join_total size (a + b) ls))
    (λ h. omega (arith, join_total size b ls))

join_fits : (size a : ℕ) (ls : List ℕ) → 1 ≤ a → a ≤ size → AtMost size ls → EachFits size (join size a ls)
unfolding join
join_fits size a [] p q f = (p, q, tt)
join_fits size a (b ∷ ls) p q f =
    le-cases (EachFits size) (a + b) size
    (λ h. join_fits size (a + b) ls (omega arith) h f.1)
    (λ h. (p, q, join_fits size b ls (omega arith) f.0 f.1))

-- the blocks after a compression of the entries c ∷ us
module _ (error : Fraction) (size : ℕ) (c : Entry) (us : List Entry) where
  marks-total : total (take (suc (length us)) (marks error (c ∷ us))) ≡ length (squashed error (c ∷ us))
  unfolding marks squashed
  marks-total = rw (take_all (length us) (stays error 1 c us) (omega (arith, stays-length error 1 c us))) (omega (arith, squash-length error 1 c us))

  joined_keeps : (ls : List ℕ) → EachFits size ls → total ls ≡ suc (length us)
      → EachFits size (joined size (kept (marks error (c ∷ us)) ls)) × (total (joined size (kept (marks error (c ∷ us)) ls)) ≡ length (squashed error (c ∷ us)))
  unfolding joined kept marks
  joined_keeps [] f e = absurd (omega arith)
  joined_keeps (zero ∷ ls) f e = absurd (omega arith)
  joined_keeps (suc a ∷ ls) f e =
      let ms : List ℕ = 1 ∷ stays error 1 c us in
      let k = kept_small size ms (suc a ∷ ls) (omega arith, stays-small error 1 c us) f in (
        join_fits size (total (take (suc a) ms)) (kept (drop (suc a) ms) ls) (omega arith) k.0 k.1,
        join_total size (total (take (suc a) ms)) (kept (drop (suc a) ms) ls) ∙ kept_total ms (suc a ∷ ls) ∙ rw e marks-total,
      )

pub tidy_kept : (error : Fraction) (size n : ℕ) (h : Held) → Kept size n h → Kept size n (tidy error size h)
unfolding tidy squashed
tidy_kept error size n h k = lt-cases (Kept size n) (length h.entries) 3 (λ _. k) (λ l. go h.entries h.blocks l k)
  where
    go : (es : List Entry) (ls : List ℕ) → 3 ≤ length es → Kept size n record { entries = es; blocks = ls }
        → Kept size n record { entries = squashed error es; blocks = joined size (kept (marks error es) ls) }
    go [] ls l k = absurd (omega arith)
    go (c ∷ us) ls l k =
        let j = joined_keeps error size c us ls k.blocks k.all in
        record {
          sorted = squash-rising error 0 1 c us k.sorted;
          each = squash-each error 1 c us k.each;
          summed = squash-sum error 1 c us ∙ k.summed;
          blocks = j.0;
          all = j.1;
        }
