-- `readings::readings` meets its contract: each reading is computed, here or beside its definitions.
-- Assumes nothing.
use mathlib.Core.Path.{refl}
use Rattle.entries.specs.Place.{place}
use Rattle.fraction.specs.Band.{halvings}
use Rattle.ckms.proofs.Abacus as ckms
use Rattle.ckms_store.proofs.Abacus as store
use Rattle.noise_floor.proofs.Abacus as stream
use Rattle.histogram.proofs.Examples as histogram
use Rattle.mean.proofs.Examples as mean
use Rattle.scan_lines.proofs.Examples as scan
use Rattle.readings.proofs.readings.Goals as goal

pub returns : goal.returns
unfolding place halvings
returns c = record {
  stream = stream.computed;
  written = scan.reading_2;
  reading3 = record { band0 = refl; band2 = refl; band3 = refl };
  reading4 = record { place20 = refl };
  reading11 = record { inv0 = refl; inv998 = refl; inv1000 = refl };
  histogram = histogram.readings;
  store = store.computed;
  ckms = ckms.computed;
  mean = mean.readings;
}
