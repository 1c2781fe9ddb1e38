-- The readings, by computation. Files are checked in the order of their names: where a definition is wrong, its reading is refused first.
-- Assumes nothing.
use mathlib.Core.Path.{refl}
use lib.Ieee.{add, sub, div, of_int}
use Rattle.ckms_theory.specs.Blocks.{block_of, rank_of, grown}
use Rattle.ckms_theory.specs.Join.{join, joined}
use Rattle.ckms_theory.specs.Lists.{entries_sound, blocks_sound}
use Rattle.ckms_theory.specs.Squash.{squash, stays, squashed, marks, kept}
use Rattle.ckms_theory.specs.Walk.{walk, look_up}
use Rattle.ckms_store.specs.Answers as store
use Rattle.ckms_store_steps.specs.Sound.{sound}
use Rattle.ckms_store_work.specs.Changes.{new_delta, put, tidy}
use Rattle.ckms_told.specs.Answers.{cma_of}
use Rattle.ckms.specs.Answers.{inserted, queried}
use Rattle.ckms.specs.Readings.{run, CkmsReadings}

pub computed : CkmsReadings
unfolding add sub div of_int block_of rank_of grown join joined entries_sound blocks_sound squash stays squashed marks kept walk look_up new_delta put tidy sound store.queried inserted queried cma_of run
computed = record { entries_10 = refl; blocks_10 = refl; query_10 = refl; mean_12 = refl; infinite_mean = refl }
