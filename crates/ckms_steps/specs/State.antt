-- A CKMS: a store of block size 2,048, an insert counter, the last value and the running mean; and when it is sound.
-- Assumes nothing: these are definitions.
use Rattle.std.specs.Prelude.{ℕ, ◌+◌, ◌%◌, max, Bool, true, cond, ◌&&◌, List, eqb, ltb, Option, Some, None}
use Rattle.fraction.specs.declared.Fraction.{Fraction}
use Rattle.fraction.specs.Products.{period}
use Rattle.entries.specs.declared.Entry.{Entry}
use Rattle.mean.specs.declared.Mean.{Mean}
use Rattle.mean.specs.Mean.{mean_first, mean_next, finite, in_range}
use Rattle.ckms_store_steps.specs.declared.Store.{Store}
use Rattle.ckms_store_steps.specs.Held.{Held}
use Rattle.ckms_store_steps.specs.Sound as store
use Rattle.ckms_store_work.specs.Changes.{put, tidy}
use Rattle.ckms_steps.specs.declared.CKMS.{CKMS}

-- the block size
abbrev pub block : ℕ
block = 2048

-- the store within
abbrev pub samples : CKMS → Store
samples c = record { error = c.error; n = c.n; held = c.held; block = block; blocks = c.blocks }

-- the modulus of the insert counter: max(1, ⌊1/(2·error)⌋)
abbrev pub modulus : Fraction → ℕ
modulus error = max 1 (period error)

-- the insert counter after one insert more
abbrev pub count_on : Fraction → ℕ → ℕ
count_on error inserts = (inserts + 1) % modulus error

-- what is held after x was accepted: the store compresses when the counter, at `inserts` before, returns to 0
abbrev pub taken : Fraction → ℕ → ℕ → Held → Held
taken error inserts x h = cond (eqb (count_on error inserts) 0) (tidy error block (put error block x h)) (put error block x h)

-- the mean with v as the last of n values
abbrev pub cma_after : Option Mean → ℕ → ℕ → Option Mean
cma_after None v n = Some (mean_first v)
cma_after (Some m) v n = Some (mean_next m v n)

-- the last value: none exactly when n is 0
abbrev pub last_sound : ℕ → Option ℕ → Bool
last_sound n None = eqb n 0
last_sound n (Some v) = ltb 0 n

-- the mean: none exactly when n is 0, else finite
abbrev pub cma_sound : ℕ → Option Mean → Bool
cma_sound n None = eqb n 0
cma_sound n (Some m) = ltb 0 n && finite m.value

-- the mean lies between 0 and the largest u32, if there is one
abbrev pub cma_in_range : Option Mean → Bool
cma_in_range None = true
cma_in_range (Some m) = in_range m.value

-- what a CKMS has beside its store: the counter is below its modulus
abbrev pub record_sound : CKMS → Bool
record_sound c = ltb c.inserts (modulus c.error) && (last_sound c.n c.last_in && cma_sound c.n c.cma)

-- the test of every call but opening: the store's, and that of the rest
abbrev pub sound : CKMS → List Entry → List ℕ → Bool
sound c list lens = store.sound (samples c) list lens && record_sound c
