-- Document 01's reading of the running mean, by computation. Assumes nothing.
use mathlib.Core.Path.{refl}
use lib.Ieee.{add, sub, div, of_int}
use Rattle.mean.specs.Readings.{MeanReadings}

pub readings : MeanReadings
unfolding add sub div of_int
readings = record { mean_of_two = refl }
