-- The readings, by computation. Files are checked in the order of their names: where a definition is wrong, its reading is refused first.
-- Assumes nothing.
use mathlib.Core.Path.{refl}
use Rattle.fraction.specs.Band.{halvings}
use Rattle.entries.specs.Place.{place}
use Rattle.greenwald_khanna_theory.specs.Readings.{Readings}
use Rattle.greenwald_khanna_theory.specs.Sound.{each_within, first_exact, last_exact, sound_entries}
use Rattle.greenwald_khanna_theory.specs.State.{grown, tidied, insert}
use Rattle.greenwald_khanna_theory.specs.Summary.{new_delta, put_in, mergeable, step, merged, compress}
use Rattle.greenwald_khanna_theory.specs.Walk.{walk, look_up}

pub computed : Readings
unfolding halvings place each_within first_exact last_exact sound_entries grown tidied insert new_delta put_in mergeable step merged compress walk look_up
computed = record {
  first_in = refl;
  second_in = refl;
  middle_in = refl;
  deleted = refl;
  kept_at_p = refl;
  at_the_limit = refl;
  one_is_sound = refl;
  two_at_once = refl;
}
