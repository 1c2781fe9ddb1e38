-- What the search over whole blocks finds.
-- Assumes nothing: this is a definition.
use Rattle.std.specs.Prelude.{◌≡◌, ℕ, ◌+◌, ◌≤◌, ◌<◌, List, length, get_or, take, drop}
use Rattle.entries.specs.declared.Entry.{Entry}
use Rattle.entries.specs.Entry.{values}
use Rattle.entries.specs.Ranks.{below}
use Rattle.ckms_theory.specs.Blocks.{block_of, rank_of}
use Rattle.ckms_blocks.specs.declared.Start.{Start}

-- the block that x goes to, the entries before it, and the g-sums of the blocks moved into
pub record Skipped (x : ℕ) (es : List Entry) (ls : List ℕ) (s : Start) : Type 0 where
  pub inside : s.block < length ls
  pub fits : s.start + get_or ls s.block 0 ≤ length es
  pub found : s.block ≡ block_of x es ls
  pub place : s.start + below (values (take (get_or ls s.block 0) (drop s.start es))) x ≡ below (values es) x
  pub rank : s.sum + below (values (take (get_or ls s.block 0) (drop s.start es))) x ≡ rank_of x es ls
  pub low : s.sum ≤ 1000000000
