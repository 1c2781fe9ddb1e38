-- The readings, by computation. Files are checked in the order of their names: where a definition is wrong, its reading is refused first.
-- Assumes nothing.
use mathlib.Core.Path.{refl}
use Rattle.fraction.specs.Band.{halvings}
use Rattle.entries.specs.Place.{place}
use Rattle.greenwald_khanna_theory.specs.Sound.{each_within, first_exact, last_exact, sound_entries}
use Rattle.greenwald_khanna_theory.specs.State.{grown, tidied, insert, answer_at, quantile}
use Rattle.greenwald_khanna_theory.specs.Summary.{new_delta, put_in, mergeable, step, merged, compress}
use Rattle.greenwald_khanna_theory.specs.Walk.{walk, look_up}
use Rattle.greenwald_khanna_steps.specs.Sound.{sound}
use Rattle.greenwald_khanna_steps.specs.Opening.{opened}
use Rattle.greenwald_khanna.specs.Answers.{inserted, quantiled}
use Rattle.noise_floor.specs.Demand3.{run}
use Rattle.noise_floor.specs.Readings.{StreamReadings}

pub computed : StreamReadings
unfolding halvings place each_within first_exact last_exact sound_entries grown tidied insert answer_at quantile new_delta put_in mergeable step merged compress walk look_up opened inserted quantiled run sound
computed = record {
  opens = refl;
  opens_zero = refl;
  reading_1 = refl;
  reading_2_half = refl;
  reading_2_zero = refl;
  reading_2_one = refl;
  reading_2_quarter = refl;
  reading_5 = refl;
  delta_before = refl;
  band_equal = refl;
  band_larger = refl;
  period_down = refl;
  from_the_last = refl;
  sharp_below = refl;
  sharp_above = refl;
  under_the_comment = refl;
  zero_not_least = refl;
}
