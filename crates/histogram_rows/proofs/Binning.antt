-- The bin of a value: the number of smaller bounds is the place of the first bound that is at least as large, and its count grows by one.
-- Assumes nothing.
use mathlib.Core.Path.{◌≡◌}
use Prim.Native.Nat.{ℕ, suc, ◌+◌, ◌<◌}
use mathlib.Core.List.{List}
use native.Mathlib.Numerals.{add-one}
use native.Mathlib.Omega.{arith}
use lib.ListN.{length, get_or, set}
use Rattle.entries.proofs.Counting.{below_le_upto, upto_le_length}
use Rattle.entries.proofs.Places.{below_before, below_there}
use Rattle.histogram_rows.specs.Bounds.{bin_of}
use Rattle.histogram_rows.specs.Bins.{counted}
use Rattle.histogram_rows.specs.Laws.{BinIsFirst}

pub bin_is_first : BinIsFirst
unfolding BinIsFirst
bin_is_first bs v r = record {
  a_bin = omega (arith, below_le_upto bs v, upto_le_length bs v);
  before = below_before bs v r;
  there = below_there bs v r;
}

-- every value has a bin
pub bin_fits : (bs cs : List ℕ) (v : ℕ) → length cs ≡ suc (length bs) → bin_of bs v < length cs
bin_fits bs cs v e = omega (arith, below_le_upto bs v, upto_le_length bs v)

-- the count of a bin raised by one, as the code writes it
pub raised : (bs cs : List ℕ) (v k : ℕ) → k ≡ bin_of bs v → set cs k (get_or cs k 0 + 1) ≡ counted bs cs v
raised bs cs v k e = rw (e, add-one (get_or cs (bin_of bs v) 0))
