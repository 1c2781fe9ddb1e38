-- Reading 9 of the rules, and inputs that tell the store's plausible slips apart.
-- Assumes nothing: these are definitions.
use Rattle.std.specs.Prelude.{◌≡◌, ℕ, List, [], ◌∷◌}
use Rattle.fraction.specs.declared.Fraction.{Fraction}
use Rattle.entries.specs.declared.Entry.{Entry}
use Rattle.entries.specs.Entry.{entry}
use Rattle.ckms_theory.specs.Join.{joined}
use Rattle.ckms_theory.specs.Walk.{ranked, look_up}
use Rattle.ckms_store_steps.specs.Held.{Held, nothing}
use Rattle.ckms_store_steps.specs.Readings.{over, DeltaReadings}
use Rattle.ckms_store_work.specs.Changes.{put, tidy}
use Rattle.ckms_store_look.specs.Query.{scale_of, limit_of}

-- these entries in blocks of these lengths
abbrev pub holds : List Entry → List ℕ → Held
holds es ls = record { entries = es; blocks = ls }

-- all xs inserted, one after another
unfoldable pub put_all : Fraction → ℕ → Held → List ℕ → Held
put_all error size h [] = h
put_all error size h (x ∷ xs) = put_all error size (put error size x h) xs

-- each x inserted, and a compression after it
unfoldable pub put_tidy : Fraction → ℕ → Held → List ℕ → Held
put_tidy error size h [] = h
put_tidy error size h (x ∷ xs) = put_tidy error size (tidy error size (put error size x h)) xs

pub record StoreReadings : Type 0 where
  -- 9: error 1/2, block 2, 10 20 30 40 50 45: 45 has delta 2 (with the g of the first block counted it would have 3)
  pub reading_9 : put_all (over 1 2) 2 nothing (10 ∷ 20 ∷ 30 ∷ 40 ∷ 50 ∷ 45 ∷ [])
      ≡ holds (entry 10 1 0 ∷ entry 20 1 0 ∷ entry 30 1 0 ∷ entry 40 1 0 ∷ entry 45 1 2 ∷ entry 50 1 0 ∷ []) (2 ∷ 2 ∷ 2 ∷ [])
  -- a full block gives its last entry to a new one
  pub splits : put_all (over 1 2) 2 nothing (30 ∷ 20 ∷ 10 ∷ []) ≡ holds (entry 10 1 0 ∷ entry 20 1 0 ∷ entry 30 1 0 ∷ []) (2 ∷ 1 ∷ [])
  -- merged at ≤, and two entries stay as they are
  pub merges : put_tidy (over 1 2) 2048 nothing (1 ∷ 2 ∷ 3 ∷ []) ≡ holds (entry 1 1 0 ∷ entry 3 2 0 ∷ []) (2 ∷ [])
  -- there q = 1 gives (2, 3): held as the last rank, and not n
  pub last_rank : look_up (scale_of (over 1 1)) (limit_of (over 1 2) (over 1 1) 3) (entry 1 1 0 ∷ entry 3 2 0 ∷ []) ≡ ranked 2 3
  -- a block that loses all its entries is gone, and a joined block is tried again
  pub joins : tidy (over 3 4) 2 (holds (entry 1 1 0 ∷ entry 2 1 0 ∷ entry 3 1 0 ∷ entry 4 1 0 ∷ []) (1 ∷ 1 ∷ 1 ∷ 1 ∷ [])) ≡ holds (entry 1 1 0 ∷ entry 4 3 0 ∷ []) (2 ∷ [])
  pub joins_again : joined 4 (1 ∷ 2 ∷ 1 ∷ 4 ∷ 1 ∷ []) ≡ 4 ∷ 4 ∷ 1 ∷ []
  -- the largest delta
  pub deltas : DeltaReadings
