-- The walk of a query, turn by turn. Assumes nothing.
use mathlib.Core.Path.{◌≡◌, refl}
use mathlib.Core.List.{List, [], ◌∷◌}
use Prim.Native.Nat.{ℕ, suc, ◌+◌, ◌-◌, ◌*◌, ◌≤◌, ◌<◌}
use native.Mathlib.Omega.{arith}
use native.Mathlib.Numerals.{add-one}
use borrow.Author.Tests.{lt-ltb, le-ltb}
use lib.ListN.{length, take, drop, length-map}
use lib.Seq.{take-length}
use Rattle.entries.specs.Entry.{entry_of, entries_of, sum_g}
use Rattle.entries.proofs.Parts.{entry_at, entries_from, entries_end}
use Rattle.ckms_theory.specs.Walk.{ranked, last_rank, walk, look_up}

-- the walk before place i of the rows behind the first: the rank is the sum of the g so far, and v the value before
pub record Walking (scale limit : ℕ) (rows behind : List (List ℕ)) (i rank v : ℕ) : Type 0 where
  pub summed : rank + sum_g (drop i (entries_of behind)) ≡ sum_g (entries_of rows)
  pub same : walk scale limit (length rows) rank v (drop i (entries_of behind)) ≡ look_up scale limit (entries_of rows)

pub walk_none : (scale limit : ℕ) (rows : List (List ℕ)) → 0 < length rows
    → Walking scale limit rows (take (length rows - 1) (drop 1 rows)) 0 (entry_at rows 0).g (entry_at rows 0).v
unfolding look_up
walk_none scale limit [] h = absurd (omega arith)
walk_none scale limit (row ∷ rows) h =
    let q : suc (length rows) - 1 ≡ length rows = omega arith in
    rw (q, take-length rows) record { summed = refl; same = rw (length-map rows entry_of) }

module _ (scale limit : ℕ) (rows behind : List (List ℕ)) (i rank v : ℕ) (z : Walking scale limit rows behind i rank v) where
  pub rank_small : rank ≤ sum_g (entries_of rows)
  rank_small = omega (arith, z.summed)

  pub walk_end : length behind ≤ i → ranked (last_rank (length rows) rank) v ≡ look_up scale limit (entries_of rows)
  unfolding walk
  walk_end h = rw (entries_end behind i h) at z.same

  module _ (h : i < length behind) where
    pub walk_stop : limit < scale * (rank + (entry_at behind i).g + (entry_at behind i).delta) → ranked rank v ≡ look_up scale limit (entries_of rows)
    unfolding walk
    walk_stop g =
        rw (entries_from behind i h, lt-ltb limit (scale * (rank + (entry_at behind i).g + (entry_at behind i).delta)) g) at z.same

    pub walk_more : scale * (rank + (entry_at behind i).g + (entry_at behind i).delta) ≤ limit
        → Walking scale limit rows behind (i + 1) (rank + (entry_at behind i).g) (entry_at behind i).v
    unfolding walk
    walk_more g =
        let s = z.summed in
        rw (add-one i) record {
          summed = omega (arith, rw (entries_from behind i h) at s);
          same = rw (entries_from behind i h, le-ltb limit (scale * (rank + (entry_at behind i).g + (entry_at behind i).delta)) g) at z.same;
        }
