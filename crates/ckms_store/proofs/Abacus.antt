-- The readings, by computation. Files are checked in the order of their names: where a definition is wrong, its reading is refused first.
-- Assumes nothing.
use mathlib.Core.Path.{refl}
use Rattle.ckms_theory.specs.Blocks.{block_of, rank_of, grown}
use Rattle.ckms_theory.specs.Join.{join, joined}
use Rattle.ckms_theory.specs.Squash.{squash, stays, squashed, marks, kept}
use Rattle.ckms_theory.specs.Walk.{walk, look_up}
use Rattle.ckms_store_work.specs.Changes.{new_delta, put, tidy}
use Rattle.ckms_store_steps.proofs.Abacus as steps
use Rattle.ckms_store.specs.Readings.{put_all, put_tidy, StoreReadings}

pub computed : StoreReadings
unfolding block_of rank_of grown join joined squash stays squashed marks kept walk look_up new_delta put tidy put_all put_tidy
computed = record {
  reading_9 = refl;
  splits = refl;
  merges = refl;
  last_rank = refl;
  joins = refl;
  joins_again = refl;
  deltas = steps.computed;
}
