-- The readings, by computation. Files are checked in the order of their names: where a definition is wrong, its reading is refused first.
-- Assumes nothing.
use mathlib.Core.Path.{refl}
use Rattle.ckms_theory.specs.Blocks.{rank_of}
use Rattle.ckms_theory.specs.Lists.{entries_sound}
use Rattle.ckms_theory.specs.Readings.{Readings}
use Rattle.ckms_theory.specs.Squash.{squash, squashed}
use Rattle.ckms_theory.specs.Walk.{walk, look_up}

pub computed : Readings
unfolding rank_of entries_sound squash squashed walk look_up
computed = record { moved_into = refl; merges_at_inv = refl; rank_before = refl; held_as_rank = refl; falls = refl }
