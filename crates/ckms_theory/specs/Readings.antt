-- What the definitions give on small lists: numbers that a reader can check by hand, each beside a slip that it tells apart.
-- Assumes nothing: these are definitions.
use Rattle.std.specs.Prelude.{◌≡◌, false, List, [], ◌∷◌}
use Rattle.fraction.specs.declared.Fraction.{Fraction}
use Rattle.entries.specs.declared.Entry.{Entry}
use Rattle.entries.specs.Entry.{entry}
use Rattle.ckms_theory.specs.Blocks.{rank_of}
use Rattle.ckms_theory.specs.Lists.{entries_sound}
use Rattle.ckms_theory.specs.Squash.{squashed}
use Rattle.ckms_theory.specs.Walk.{ranked, look_up}

-- error 1/2: inv(1) = 1 and inv(2) = 2
abbrev pub half : Fraction
half = record { num = 1; den = 2 }

-- 10 20 30, each observed once
abbrev pub three : List Entry
three = entry 10 1 0 ∷ entry 20 1 0 ∷ entry 30 1 0 ∷ []

pub record Readings : Type 0 where
  -- blocks 10 20 | 30: r of 25 counts the g of the block moved into, 1, and not of the block skipped, 2
  pub moved_into : rank_of 25 three (2 ∷ 1 ∷ []) ≡ 1
  -- 10 and 20 stay apart, as 1 + 1 + 0 is above inv(1); 20 goes into 30, as it is at most inv(2), and not below it
  pub merges_at_inv : squashed half three ≡ entry 10 1 0 ∷ entry 30 2 0 ∷ []
  -- 2 + 1 + 0 is the first above the limit 2: the rank is the sum of the g before it, 2
  pub rank_before : look_up 1 2 three ≡ ranked 2 20
  -- no entry passes the limit 9: the rank is that of the entries held, 2, and not of the observations, 3
  pub held_as_rank : look_up 1 9 (entry 10 1 0 ∷ entry 30 2 0 ∷ []) ≡ ranked 2 30
  -- values that fall are not sound, whatever their g and delta
  pub falls : entries_sound 0 2 0 0 (entry 20 1 0 ∷ entry 10 1 0 ∷ []) ≡ false
