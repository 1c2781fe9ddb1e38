-- Which states of a store over lent lists are sound.
-- Assumes nothing: these are definitions.
use Rattle.std.specs.Prelude.{◌≡◌, ◌↔◌, ℕ, ◌≤◌, Bool, true, ◌&&◌, List, [], ◌∷◌, leb, length, take}
use Rattle.fraction.specs.Allowed.{is_error}
use Rattle.entries.specs.declared.Entry.{Entry}
use Rattle.entries.specs.Entry.{values, sum_g}
use Rattle.entries.specs.Ranks.{Rising}
use Rattle.ckms_theory.specs.Blocks.{total}
use Rattle.ckms_theory.specs.Lists.{entries_sound, blocks_sound}
use Rattle.ckms_store_steps.specs.declared.Store.{Store}
use Rattle.ckms_store_steps.specs.Limits.{observations, deltas, size_ok}

-- the words of the state, over so many slots and block places
abbrev pub words_sound : Store → ℕ → ℕ → Bool
words_sound s rows places =
    is_error s.error && (leb s.n observations && (leb s.held rows && (size_ok s.block && leb s.blocks places)))

-- the test of every call but opening: the words of the state, the entries held, the blocks in use
unfoldable pub sound : Store → List Entry → List ℕ → Bool
sound s list lens =
    words_sound s (length list) (length lens)
    && (entries_sound deltas s.n 0 0 (take s.held list) && blocks_sound s.block s.held 0 (take s.blocks lens))

-- each g is 1 or more, each delta at most 3,999,999,999
abbrev pub EachCounts : List Entry → Type 0
EachCounts [] = Unit {0}
EachCounts (e ∷ es) = (1 ≤ e.g) × (e.delta ≤ deltas) × EachCounts es

-- each block has 1 to `size` entries
abbrev pub EachFits : ℕ → List ℕ → Type 0
EachFits size [] = Unit {0}
EachFits size (a ∷ ls) = (1 ≤ a) × (a ≤ size) × EachFits size ls

-- what the test says, rule by rule
pub record Rules (s : Store) (list : List Entry) (lens : List ℕ) : Type 0 where
  pub error : is_error s.error ≡ true
  pub count : s.n ≤ observations
  pub fits : s.held ≤ length list
  pub empty : (s.held ≡ 0) ↔ (s.n ≡ 0)
  pub sorted : Rising 0 (values (take s.held list))
  pub each : EachCounts (take s.held list)
  pub summed : sum_g (take s.held list) ≡ s.n
  pub size : size_ok s.block ≡ true
  pub places : s.blocks ≤ length lens
  pub blocks : EachFits s.block (take s.blocks lens)
  pub all : total (take s.blocks lens) ≡ s.held
