-- The squash, step by step: what it leaves, and what it removes, do not change while the pass goes on.
-- Assumes nothing.
use mathlib.Core.Path.{◌≡◌, refl, sym, ap, ◌∙◌}
use mathlib.Core.Bool.{Bool, true, false, cond}
use mathlib.Core.List.{List, [], ◌∷◌, ◌++◌, append-nil}
use Prim.Native.Nat.{ℕ, zero, suc, ◌+◌, ◌-◌, ◌≤◌, ◌<◌}
use native.Mathlib.Omega.{arith}
use native.Mathlib.Numerals.{add-one}
use lib.ListN.{length, get_or, set, take, drop, length-set, drop_of_length-le}
use lib.Seq.{length-take-le, take-length, drop-length, drop-cons, append_snoc, drop-set-lt, get_or-set_same, take-suc-set}
use borrow.Rule.Slice.PartMut.{put_mid}
use Rattle.ckms_squash.proofs.Passes.{taken_in, moved_on, all_done}
use Rattle.fraction.specs.declared.Fraction.{Fraction}
use Rattle.entries.specs.declared.Entry.{Entry}
use Rattle.entries.specs.Entry.{zero_entry}
use Rattle.ckms_theory.specs.Blocks.{total}
use Rattle.ckms_theory.specs.Pass.{outcome, coming, Turned, Passed, Finished, Squashed}
use Rattle.ckms_theory.specs.Squash.{step_rank, merges, merged, squash, stays, squashed, marks, kept}

-- the first mark of what is still to come: it is counted, and the others are still to come
next_mark : (n x : ℕ) (ms t : List ℕ) → drop n ms ≡ x ∷ t → (t ≡ drop (suc n) ms) × (total (take (suc n) ms) ≡ total (take n ms) + x)
next_mark zero x [] t e = absurd (let z : ◌≡◌ {A = ℕ} 0 1 = cc in omega arith)
next_mark zero x (m ∷ ms) t e = let p : m ≡ x = cc in (cc, omega arith)
next_mark (suc n) x [] t e = absurd (let z : ◌≡◌ {A = ℕ} 0 1 = cc in omega arith)
next_mark (suc n) x (m ∷ ms) t e = let r = next_mark n x ms t e in (r.0, omega arith)

module _ (error : Fraction) (es : List Entry) (k i : ℕ) (b : suc k ≤ i) (h : i < length es) where
  -- the two entries that a step looks at
  abbrev current : Entry
  current = get_or es k zero_entry

  abbrev next : Entry
  next = get_or es i zero_entry

  merge-outcome : merges error (step_rank i) current next ≡ true
      → take k (set es k (merged current next)) ++ squash error (suc i) (get_or (set es k (merged current next)) k zero_entry) (drop (suc i) (set es k (merged current next)))
      ≡ take k es ++ squash error i current (drop i es)
  unfolding squash
  merge-outcome t = taken_in zero_entry (squash error) es k i b h (merged current next) (rw t)

  merge-coming : merges error (step_rank i) current next ≡ true
      → stays error i current (drop i es) ≡ 0 ∷ stays error (suc i) (get_or (set es k (merged current next)) k zero_entry) (drop (suc i) (set es k (merged current next)))
  unfolding stays
  merge-coming t =
      rw (get_or-set_same es k (merged current next) zero_entry (omega arith), drop-set-lt (suc i) es k (merged current next) (omega arith), drop-cons es i zero_entry h, t)

  keep-outcome : merges error (step_rank i) current next ≡ false
      → take (suc k) (set es (suc k) next) ++ squash error (suc i) (get_or (set es (suc k) next) (suc k) zero_entry) (drop (suc i) (set es (suc k) next))
      ≡ take k es ++ squash error i current (drop i es)
  unfolding squash
  keep-outcome t = moved_on zero_entry (squash error) es k i b h (rw t)

  keep-coming : merges error (step_rank i) current next ≡ false
      → stays error i current (drop i es) ≡ 1 ∷ stays error (suc i) (get_or (set es (suc k) next) (suc k) zero_entry) (drop (suc i) (set es (suc k) next))
  unfolding stays
  keep-coming t =
      rw (get_or-set_same es (suc k) next zero_entry (omega arith), drop-set-lt (suc i) es (suc k) next (omega arith), drop-cons es i zero_entry h, t)

-- a step, as `turn` states it: the same in the end, and one mark less to come
pub record Stepped (error : Fraction) (w i : ℕ) (es : List Entry) (after : ℕ) (left : List Entry) : Type 0 where
  pub mark : ℕ
  pub more : after ≡ w + mark
  pub small : mark ≤ 1
  pub result : outcome error after (suc i) left ≡ outcome error w i es
  pub marked : coming error w i es ≡ mark ∷ coming error after (suc i) left
  pub long : length left ≡ length es

pub stepped : (error : Fraction) (w i : ℕ) (es : List Entry) (after : ℕ) (left : List Entry) → 0 < w → w ≤ i → i < length es
    → Turned error w i es after left → Stepped error w i es after left
stepped error zero i es after left p b h t = absurd (omega arith)
stepped error (suc k) i es after left p b h t = rw (t.place, t.list) (go (merges error (step_rank i) (get_or es (suc k - 1) zero_entry) (get_or es i zero_entry)) refl)
  where
    q : suc k - 1 ≡ k
    q = omega arith

    q' : suc (suc k) - 1 ≡ suc k
    q' = omega arith

    go : (m : Bool) → merges error (step_rank i) (get_or es (suc k - 1) zero_entry) (get_or es i zero_entry) ≡ m
        → Stepped error (suc k) i es (cond m (suc k) (suc (suc k)))
        (cond m (set es (suc k - 1) (merged (get_or es (suc k - 1) zero_entry) (get_or es i zero_entry))) (set es (suc k) (get_or es i zero_entry)))
    go true m = rw q record {
      mark = 0;
      more = omega arith;
      small = omega arith;
      result = rw q (merge-outcome error es k i b h (rw q at m));
      marked = rw q (merge-coming error es k i b h (rw q at m));
      long = length-set es k (merged (get_or es k zero_entry) (get_or es i zero_entry));
    }
    go false m = record {
      mark = 1;
      more = omega arith;
      small = omega arith;
      result = rw (q, q') (keep-outcome error es k i b h (rw q at m));
      marked = rw (q, q') (keep-coming error es k i b h (rw q at m));
      long = length-set es (suc k) (get_or es i zero_entry);
    }

-- one step more
pub pass_more : (error : Fraction) (w i j : ℕ) (es : List Entry) (v : ℕ) (fs : List Entry) (after : ℕ) (left : List Entry) → i ≤ j → j < length fs
    → Passed error w i j es v fs → Turned error v j fs after left → Passed error w i (j + 1) es after left
pass_more error w i j es v fs after left b h z t =
    let s = stepped error v j fs after left z.some z.few h t in
    let q : suc j - i ≡ suc (j - i) = omega arith in
    let m = next_mark (j - i) s.mark (coming error w i es) (coming error after (suc j) left) (sym z.marked ∙ s.marked) in
    rw (add-one j) record {
      some = omega (arith, z.some, s.more);
      few = omega (arith, z.few, s.more, s.small);
      result = s.result ∙ z.result;
      marked = rw q m.0;
      count = rw q (omega (arith, z.count, s.more, m.1));
    }

-- past the last entry, what stands in place is what the whole pass leaves
pub outcome_done : (error : Fraction) (w : ℕ) (es : List Entry) → 0 < w → w ≤ length es → outcome error w (length es) es ≡ take w es
unfolding squash
outcome_done error zero es p b = absurd (omega arith)
outcome_done error (suc k) es p b =
    let q : suc k - 1 ≡ k = omega arith in
    rw (q, drop_of_length-le es {i = length es} (omega arith)) (all_done zero_entry (squash error) es k (length es) (omega arith) refl)

-- a block's length becomes what stays of it
pub kept_turn : (ms later ls : List ℕ) (b d : ℕ) → b < length ls → later ≡ drop (get_or ls b 0) ms → d ≡ total (take (get_or ls b 0) ms)
    → take (b + 1) (set ls b d) ++ kept later (drop (b + 1) (set ls b d)) ≡ take b ls ++ kept ms (drop b ls)
unfolding kept
kept_turn ms later ls b d h e f =
    rw (add-one b, take-suc-set ls b d h, drop-set-lt (suc b) ls b d (omega arith), drop-cons ls b 0 h, e, f)
    (append_snoc (take b ls) (total (take (get_or ls b 0) ms)) (kept (drop (get_or ls b 0) ms) (drop (suc b) ls)))

-- no block is left
pub kept_done : (ms ls : List ℕ) → take (length ls) ls ++ kept ms (drop (length ls) ls) ≡ ls
unfolding kept
kept_done ms ls = rw (take-length ls, drop-length ls) (append-nil ls)

-- the pass starts behind the first entry
pub begin : (error : Fraction) (es : List Entry) → 0 < length es → (outcome error 1 1 es ≡ squashed error es) × (marks error es ≡ 1 ∷ coming error 1 1 es)
unfolding squashed marks
begin error [] h = absurd (omega arith)
begin error (e ∷ es) h = (refl, refl)

-- its first mark is one of the first block's
pub first_marks : (ms ns : List ℕ) (a : ℕ) → 1 ≤ a → ms ≡ 1 ∷ ns → (drop (a - 1) ns ≡ drop a ms) × (1 + total (take (a - 1) ns) ≡ total (take a ms))
first_marks ms ns zero h e = absurd (omega arith)
first_marks ms ns (suc a) h e = let q : suc a - 1 ≡ a = omega arith in rw (q, e) (refl, refl)

-- the next block's length, and what is behind it
pub next_block : (ls : List ℕ) (b : ℕ) → b < length ls → total (drop b ls) ≡ get_or ls b 0 + total (drop (b + 1) ls)
next_block ls b h = rw (add-one b, drop-cons ls b 0 h)

-- a list whose part behind its first place was written to
pub behind_first : (ls new : List ℕ) → 0 < length ls → put_mid 1 (length ls - 1) ls new ≡ take 1 ls ++ new
behind_first [] new h = absurd (omega arith)
behind_first (a ∷ ls) new h =
    let q : suc (length ls) - 1 ≡ length ls = omega arith in
    rw (q, drop-length ls, append-nil new)

-- the pass between two blocks: the first b of them are done, and they hold the first i of n entries; `goal` and `lengths` are what it is to leave
pub record Between (error : Fraction) (goal : List Entry) (lengths : List ℕ) (n w i b : ℕ) (es : List Entry) (ls : List ℕ) : Type 0 where
  pub some : 1 ≤ w
  pub few : w ≤ i
  pub long : length es ≡ n
  pub rest : i + total (drop b ls) ≡ n
  pub result : outcome error w i es ≡ goal
  pub blocks : take b ls ++ kept (coming error w i es) (drop b ls) ≡ lengths

module _ (error : Fraction) (goal : List Entry) (lengths : List ℕ) (n w i b : ℕ) (es : List Entry) (ls : List ℕ) (z : Between error goal lengths n w i b es ls) where
  pub between_more : (after : ℕ) (left : List Entry) → b < length ls → length left ≡ n → Passed error w i (i + get_or ls b 0) es after left
      → Between error goal lengths n after (i + get_or ls b 0) (b + 1) left (set ls b (after - w))
  between_more after left h l p =
      let a : ℕ = get_or ls b 0 in
      let q : i + a - i ≡ a = omega arith in
      let c : after ≡ w + total (take a (coming error w i es)) = rw q at p.count in
      record {
        some = p.some;
        few = p.few;
        long = l;
        rest = rw (drop-set-lt (b + 1) ls b (after - w) (omega arith)) (omega (arith, next_block ls b h, z.rest));
        result = p.result ∙ z.result;
        blocks = kept_turn (coming error w i es) (coming error after (i + a) left) ls b (after - w) h (rw q at p.marked) (omega arith) ∙ z.blocks;
      }

  pub between_done : length ls ≡ b → (take w es ≡ goal) × (w ≡ length goal) × (ls ≡ lengths)
  between_done h =
      let d : drop b ls ≡ [] = drop_of_length-le ls {i = b} (omega arith) in
      let q : i ≡ length es = omega (arith, z.rest, z.long, ap total d) in
      let s : take w es ≡ goal = sym (outcome_done error w es z.some (omega (arith, z.few))) ∙ rw q at z.result in
      (s, sym (length-take-le w es (omega (arith, z.few))) ∙ ap length s, sym (kept_done (coming error w i es) ls) ∙ rw (← h) at z.blocks)

-- the first block and then the others make the whole pass
module _ (error : Fraction) (es : List Entry) (ls : List ℕ) (a w : ℕ) (fs : List Entry) (p : 0 < length es) (h : 0 < length ls) (q : 1 ≤ a) (e : a ≡ get_or ls 0 0) (z : Passed error 1 1 a es w fs) where
  pub squash_done : (after : ℕ) (left : List Entry) (lens : List ℕ) → Finished error w a fs (set ls 0 w) after left lens → Squashed error es ls after left lens
  squash_done after left lens f =
      let m = first_marks (marks error es) (coming error 1 1 es) a q (begin error es p).1 in
      let s : outcome error w a fs ≡ squashed error es = z.result ∙ (begin error es p).0 in
      record {
        list = f.list ∙ s;
        count = f.count ∙ ap length s;
        blocks = f.blocks ∙ kept_turn (marks error es) (coming error w a fs) ls 0 w h (rw (← e) (z.marked ∙ m.0)) (rw (← e) (z.count ∙ m.1));
      }
