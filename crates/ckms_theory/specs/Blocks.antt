-- Block lengths: where a new value goes, and how a block grows.
-- Assumes nothing: these are definitions.
use Rattle.std.specs.Prelude.{ℕ, suc, ◌+◌, ◌-◌, cond, List, [], ◌∷◌, ltb, get_or, set, take, drop}
use Rattle.entries.specs.declared.Entry.{Entry}
use Rattle.entries.specs.Entry.{values, sum_g}
use Rattle.entries.specs.Lists.{put_at}
use Rattle.entries.specs.Ranks.{below}
-- how many entries stand in blocks of these lengths: `total`
pub use Rattle.entries.specs.Total.{total}

-- the last value of a block of a entries at the front of es
abbrev pub last_of : ℕ → List Entry → ℕ
last_of a es = get_or (values es) (a - 1) 0

-- the block that x goes to: a block whose last value is smaller than x is skipped, unless it is the last block
unfoldable pub block_of : ℕ → List Entry → List ℕ → ℕ
block_of x es [] = 0
block_of x es (a ∷ []) = 0
block_of x es (a ∷ (b ∷ ls)) = cond (ltb (last_of a es) x) (suc (block_of x (drop a es) (b ∷ ls))) 0

-- r at insert, as the Rust counts it: the g-sum of each block moved into, and then 1 for each smaller entry of the last of them
unfoldable pub rank_of : ℕ → List Entry → List ℕ → ℕ
rank_of x es [] = 0
rank_of x es (a ∷ []) = below (values (take a es)) x
rank_of x es (a ∷ (b ∷ ls)) =
    cond (ltb (last_of a es) x) (sum_g (take b (drop a es)) + rank_of x (drop a es) (b ∷ ls)) (below (values (take a es)) x)

-- block b takes one entry more; full already, it gives its last entry to a new block behind it. An empty store has no block yet
unfoldable pub grown : ℕ → ℕ → List ℕ → List ℕ
grown size b [] = 1 ∷ []
grown size b (a ∷ ls) = cond (ltb (get_or (a ∷ ls) b 0) size) (set (a ∷ ls) b (suc (get_or (a ∷ ls) b 0))) (put_at (suc b) 1 (a ∷ ls))
