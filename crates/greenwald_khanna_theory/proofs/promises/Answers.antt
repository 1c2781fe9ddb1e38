-- `greenwald_khanna_theory::promises` meets its contract: each promise is a theorem.
-- Assumes nothing.
use Rattle.greenwald_khanna_theory.specs.Promises.{SweepCompresses}
use Rattle.greenwald_khanna_theory.proofs.Abacus.{computed}
use Rattle.greenwald_khanna_theory.proofs.Crossing.{never_cross, between_ends, ends_are_extremes}
use Rattle.greenwald_khanna_theory.proofs.Explaining.{fresh_sound, insert_keeps, tidied_keeps, quantile_answers, each_explained, held_within}
use Rattle.greenwald_khanna_theory.proofs.Sweeping.{sweep_compress}
use Rattle.greenwald_khanna_theory.proofs.promises.Goals as goal

pub returns : goal.returns
unfolding SweepCompresses
returns c = record {
  readings = computed;
  fresh_sound = fresh_sound;
  insert_keeps = insert_keeps;
  tidied_keeps = tidied_keeps;
  quantile_answers = quantile_answers;
  each_explained = each_explained;
  held_within = held_within;
  sweep_compresses = sweep_compress;
  never_cross = never_cross;
  between_ends = between_ends;
  ends_are_extremes = ends_are_extremes;
}
