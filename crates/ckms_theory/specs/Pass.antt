-- What the steps of the squash ask and leave, while it goes on in place.
-- Assumes nothing: these are definitions.
use Rattle.std.specs.Prelude.{◌≡◌, ℕ, suc, ◌+◌, ◌-◌, ◌≤◌, ◌<◌, cond, List, ◌++◌, length, get_or, set, take, drop}
use Rattle.fraction.specs.declared.Fraction.{Fraction}
use Rattle.entries.specs.declared.Entry.{Entry}
use Rattle.entries.specs.Entry.{zero_entry}
use Rattle.ckms_theory.specs.Blocks.{total}
use Rattle.ckms_theory.specs.Squash.{step_rank, merges, merged, squash, stays, squashed, marks, kept}

-- the pass under way: w entries stand in place, the last of them is the current one, and those from i on are still to come
abbrev pub outcome : Fraction → ℕ → ℕ → List Entry → List Entry
outcome error w i es = take (w - 1) es ++ squash error i (get_or es (w - 1) zero_entry) (drop i es)

abbrev pub coming : Fraction → ℕ → ℕ → List Entry → List ℕ
coming error w i es = stays error i (get_or es (w - 1) zero_entry) (drop i es)

-- one step: the entry at i goes into the current one, or stands behind it
pub record Turned (error : Fraction) (w i : ℕ) (es : List Entry) (after : ℕ) (left : List Entry) : Type 0 where
  pub place : after ≡ cond (merges error (step_rank i) (get_or es (w - 1) zero_entry) (get_or es i zero_entry)) w (suc w)
  pub list : left ≡ cond (merges error (step_rank i) (get_or es (w - 1) zero_entry) (get_or es i zero_entry))
      (set es (w - 1) (merged (get_or es (w - 1) zero_entry) (get_or es i zero_entry))) (set es w (get_or es i zero_entry))

-- the steps from i up to `end`: what the whole pass leaves is as before, and as many more stand in place as stay
pub record Passed (error : Fraction) (w i end : ℕ) (es : List Entry) (after : ℕ) (left : List Entry) : Type 0 where
  pub some : 1 ≤ after
  pub few : after ≤ end
  pub result : outcome error after end left ≡ outcome error w i es
  pub marked : coming error after end left ≡ drop (end - i) (coming error w i es)
  pub count : after ≡ w + total (take (end - i) (coming error w i es))

-- n entries that stand in the blocks of these lengths, one block at least
pub record Whole (n : ℕ) (ls : List ℕ) : Type 0 where
  pub few : n ≤ 4096
  pub block : 0 < length ls
  pub first : 1 ≤ get_or ls 0 0
  pub all : total ls ≡ n

-- the pass behind the first block: what is left stands in the first places, and the other blocks have the lengths that stay of them
pub record Finished (error : Fraction) (w i : ℕ) (es : List Entry) (ls : List ℕ) (after : ℕ) (left : List Entry) (lens : List ℕ) : Type 0 where
  pub list : take after left ≡ outcome error w i es
  pub count : after ≡ length (outcome error w i es)
  pub blocks : lens ≡ take 1 ls ++ kept (coming error w i es) (drop 1 ls)

-- the whole pass
pub record Squashed (error : Fraction) (es : List Entry) (ls : List ℕ) (after : ℕ) (left : List Entry) (lens : List ℕ) : Type 0 where
  pub list : take after left ≡ squashed error es
  pub count : after ≡ length (squashed error es)
  pub blocks : lens ≡ kept (marks error es) ls
