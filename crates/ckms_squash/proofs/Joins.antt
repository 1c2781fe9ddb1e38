-- The joining of blocks, step by step. Assumes nothing.
use mathlib.Core.Path.{◌≡◌, refl, sym, ap, ◌∙◌}
use mathlib.Core.Bool.{Bool, true, false, cond}
use mathlib.Core.List.{List, [], ◌∷◌, ◌++◌}
use Prim.Native.Nat.{ℕ, zero, suc, ◌+◌, ◌-◌, ◌≤◌, ◌<◌}
use native.Mathlib.Omega.{arith}
use native.Mathlib.Numerals.{add-one}
use lib.Dec.{leb}
use lib.ListN.{length, get_or, set, take, drop, drop_of_length-le}
use lib.Seq.{length-take-le}
use Rattle.ckms_theory.specs.Join.{join, joined, Turned, Joined}
use Rattle.ckms_squash.proofs.Passes.{taken_in, moved_on, all_done}

-- the joining under way: w blocks stand in place, the last of them is the current one, and those from i on are still to come
abbrev pub joining : ℕ → ℕ → ℕ → List ℕ → List ℕ
joining size w i ls = take (w - 1) ls ++ join size (get_or ls (w - 1) 0) (drop i ls)

pub joining_none : (size : ℕ) (ls : List ℕ) → 0 < length ls → joining size 1 1 ls ≡ joined size ls
unfolding joined
joining_none size [] h = absurd (omega arith)
joining_none size (a ∷ ls) h = refl

joins : (size : ℕ) (ls : List ℕ) (k i : ℕ) → suc k ≤ i → i < length ls → leb (get_or ls k 0 + get_or ls i 0) size ≡ true
    → take k (set ls k (get_or ls k 0 + get_or ls i 0)) ++ join size (get_or (set ls k (get_or ls k 0 + get_or ls i 0)) k 0) (drop (suc i) (set ls k (get_or ls k 0 + get_or ls i 0)))
    ≡ take k ls ++ join size (get_or ls k 0) (drop i ls)
unfolding join
joins size ls k i b h t = taken_in 0 (λ _. join size) ls k i b h (get_or ls k 0 + get_or ls i 0) (rw t)

stands : (size : ℕ) (ls : List ℕ) (k i : ℕ) → suc k ≤ i → i < length ls → leb (get_or ls k 0 + get_or ls i 0) size ≡ false
    → take (suc k) (set ls (suc k) (get_or ls i 0)) ++ join size (get_or (set ls (suc k) (get_or ls i 0)) (suc k) 0) (drop (suc i) (set ls (suc k) (get_or ls i 0)))
    ≡ take k ls ++ join size (get_or ls k 0) (drop i ls)
unfolding join
stands size ls k i b h t = moved_on 0 (λ _. join size) ls k i b h (rw t)

-- one step, as `turn` states it
pub joining_more : (size w i : ℕ) (ls : List ℕ) (after : ℕ) (left : List ℕ) → 0 < w → w ≤ i → i < length ls
    → Turned size w i ls after left → (1 ≤ after) × (after ≤ i + 1) × (joining size after (i + 1) left ≡ joining size w i ls)
joining_more size zero i ls after left p b h t = absurd (omega arith)
joining_more size (suc k) i ls after left p b h t = rw (t.place, t.list, add-one i) (go (leb (get_or ls (suc k - 1) 0 + get_or ls i 0) size) refl)
  where
    q : suc k - 1 ≡ k
    q = omega arith

    r : suc (suc k) - 1 ≡ suc k
    r = omega arith

    go : (t : Bool) → leb (get_or ls (suc k - 1) 0 + get_or ls i 0) size ≡ t
        → (1 ≤ cond t (suc k) (suc (suc k))) × (cond t (suc k) (suc (suc k)) ≤ suc i)
        × (joining size (cond t (suc k) (suc (suc k))) (suc i) (cond t (set ls (suc k - 1) (get_or ls (suc k - 1) 0 + get_or ls i 0)) (set ls (suc k) (get_or ls i 0))) ≡ joining size (suc k) i ls)
    go true t = (omega arith, omega arith, rw q (joins size ls k i b h (rw q at t)))
    go false t = (omega arith, omega arith, rw (q, r) (stands size ls k i b h (rw q at t)))

-- no block is left to come
pub joining_done : (size w : ℕ) (ls ls₀ : List ℕ) → 0 < w → w ≤ length ls → joining size w (length ls) ls ≡ joined size ls₀ → Joined size ls₀ w ls
unfolding join
joining_done size zero ls ls₀ p b e = absurd (omega arith)
joining_done size (suc k) ls ls₀ p b e =
    let q : suc k - 1 ≡ k = omega arith in
    let s : take (suc k) ls ≡ joined size ls₀ =
    sym (all_done 0 (λ _. join size) ls k 0 (omega arith) refl) ∙ rw (q, drop_of_length-le ls {i = length ls} (omega arith)) at e in
    record { list = s; count = sym (length-take-le (suc k) ls b) ∙ ap length s }
