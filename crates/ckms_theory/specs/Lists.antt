-- When a list of entries, and a list of block lengths, is sound.
-- Assumes nothing: these are definitions.
use Rattle.std.specs.Prelude.{ℕ, ◌+◌, Bool, ◌&&◌, List, [], ◌∷◌, leb, eqb}
use Rattle.entries.specs.declared.Entry.{Entry}

-- values never fall, from `low` on; each g is 1 or more, each delta at most `most`; the g, with `sum` before them, sum to n
unfoldable pub entries_sound : ℕ → ℕ → ℕ → ℕ → List Entry → Bool
entries_sound most n low sum [] = eqb sum n
entries_sound most n low sum (e ∷ es) = leb low e.v && (leb 1 e.g && (leb e.delta most && entries_sound most n e.v (sum + e.g) es))

-- each length is from 1 to the block size; the lengths, with `sum` before them, sum to held
unfoldable pub blocks_sound : ℕ → ℕ → ℕ → List ℕ → Bool
blocks_sound size held sum [] = eqb sum held
blocks_sound size held sum (a ∷ ls) = leb 1 a && (leb a size && blocks_sound size held (sum + a) ls)
