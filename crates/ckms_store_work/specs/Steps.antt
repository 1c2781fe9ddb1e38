-- What the steps ask and leave: an insert and a compression once their tests are passed.
-- Assumes nothing: these are definitions.
use Rattle.std.specs.Prelude.{◌≡◌, true, ℕ, suc, List, length}
use Rattle.entries.specs.declared.Entry.{Entry}
use Rattle.entries.specs.Entry.{zero_entry}
use Rattle.entries.specs.Lists.{layout}
use Rattle.ckms_store_steps.specs.declared.Store.{Store}
use Rattle.ckms_store_steps.specs.Answers.{state_of}
use Rattle.ckms_store_steps.specs.Held.{Held}
use Rattle.ckms_store_steps.specs.Limits.{slots_ok}
use Rattle.ckms_store_steps.specs.Sound.{sound}
use Rattle.ckms_store_work.specs.Changes.{put_in, tidy_in}

-- lent lists and a state that pass the tests of every call
pub record Ready (s : Store) (list : List Entry) (lens : List ℕ) : Type 0 where
  pub allowed : slots_ok (length list) (length lens) ≡ true
  pub sound : sound s list lens ≡ true

-- the state and the lent lists after a step that leaves h, and held `most` entries and `most_blocks` blocks at any moment
pub record Left (s : Store) (n : ℕ) (h : Held) (most most_blocks : ℕ) (list : List Entry) (lens : List ℕ) (after : Store) (list' : List Entry) (lens' : List ℕ) : Type 0 where
  pub state : after ≡ state_of s n h
  pub entries : list' ≡ layout zero_entry h.entries most list
  pub blocks : lens' ≡ layout 0 h.blocks most_blocks lens
  pub kept : sound after list' lens' ≡ true

-- one observation more
abbrev pub PutPost : Store → List Entry → List ℕ → ℕ → Store → List Entry → List ℕ → Type 0
PutPost s list lens x after list' lens' =
    Left s (suc s.n) (put_in s list lens x) (suc s.held) (length (put_in s list lens x).blocks) list lens after list' lens'

-- a compression
abbrev pub TidyPost : Store → List Entry → List ℕ → Store → List Entry → List ℕ → Type 0
TidyPost s list lens after list' lens' = Left s s.n (tidy_in s list lens) s.held s.blocks list lens after list' lens'
