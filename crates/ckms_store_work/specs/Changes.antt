-- What an insert and a compression make of what a store holds.
-- Assumes nothing: these are definitions.
use Rattle.std.specs.Prelude.{ℕ, cond, List, ltb, length}
use Rattle.fraction.specs.declared.Fraction.{Fraction}
use Rattle.entries.specs.declared.Entry.{Entry}
use Rattle.entries.specs.Entry.{entry, values}
use Rattle.entries.specs.Lists.{put_at}
use Rattle.entries.specs.Ranks.{below}
use Rattle.ckms_theory.specs.Blocks.{block_of, rank_of, grown}
use Rattle.ckms_theory.specs.Squash.{squashed, marks, kept}
use Rattle.ckms_theory.specs.Join.{joined}
use Rattle.ckms_store_rows.specs.Parts.{delta_at}
use Rattle.ckms_store_steps.specs.declared.Store.{Store}
use Rattle.ckms_store_steps.specs.Held.{Held, held_in}

-- the place of x: the number of smaller entries. It is 0 when the store is empty or first v ≥ x, and the end when last v < x
abbrev pub place_of : ℕ → Held → ℕ
place_of x h = below (values h.entries) x

-- the delta of a new entry: by its place, and by r
unfoldable pub new_delta : Fraction → ℕ → Held → ℕ
new_delta error x h = delta_at error (place_of x h) (length h.entries) (rank_of x h.entries h.blocks)

-- one observation more
unfoldable pub put : Fraction → ℕ → ℕ → Held → Held
put error size x h = record {
  entries = put_at (place_of x h) (entry x 1 (new_delta error x h)) h.entries;
  blocks = grown size (block_of x h.entries h.blocks) h.blocks;
}

-- compression; fewer than 3 entries stay as they are, and so do their blocks
unfoldable pub tidy : Fraction → ℕ → Held → Held
tidy error size h =
    cond (ltb (length h.entries) 3) h record {
      entries = squashed error h.entries;
      blocks = joined size (kept (marks error h.entries) h.blocks);
    }

-- what is held after an accepted insert
abbrev pub put_in : Store → List Entry → List ℕ → ℕ → Held
put_in s list lens x = put s.error s.block x (held_in s list lens)

-- what is held after a compression
abbrev pub tidy_in : Store → List Entry → List ℕ → Held
tidy_in s list lens = tidy s.error s.block (held_in s list lens)
