-- The test of the entries, turn by turn, and the test of the block lengths: what a chain of iterators says of them is what the definition says.
-- Assumes nothing.
use mathlib.Core.Path.{◌≡◌, ap}
use mathlib.Core.Bool.{◌&&◌}
use mathlib.Core.List.{List, [], ◌∷◌}
use Prim.Native.Nat.{ℕ, ◌+◌, ◌≤◌, ◌<◌}
use native.Mathlib.Omega.{arith}
use native.Mathlib.Numerals.{add-one}
use lib.Dec.{eqb, leb}
use lib.ListN.{length, drop}
use Rattle.std.specs.List.{list_all, sum_by}
use Rattle.std.proofs.Math.Bool.{and_assoc}
use Rattle.std.proofs.Math.Nat.{add_assoc}
use Rattle.std.proofs.lemmas.List.Sums.{sum_by-cons}
use Rattle.entries.specs.Entry.{entries_of}
use Rattle.entries.proofs.Parts.{entry_at, entries_from, entries_end}
use Rattle.ckms_theory.specs.Lists.{entries_sound, blocks_sound}

module _ (most n low sum : ℕ) (rows : List (List ℕ)) (i : ℕ) where
  pub entries_turn : i < length rows → entries_sound most n low sum (drop i (entries_of rows))
      ≡ leb low (entry_at rows i).v && (leb 1 (entry_at rows i).g && (leb (entry_at rows i).delta most
      && entries_sound most n (entry_at rows i).v (sum + (entry_at rows i).g) (drop (i + 1) (entries_of rows))))
  unfolding entries_sound
  entries_turn h = rw (add-one i, entries_from rows i h)

  pub entries_done : length rows ≤ i → entries_sound most n low sum (drop i (entries_of rows)) ≡ eqb sum n
  unfolding entries_sound
  entries_done h = rw (entries_end rows i h)

-- the lengths one by one, and then their sum
pub blocks_cut : (size held before : ℕ) (ls : List ℕ)
    → blocks_sound size held before ls ≡ (list_all (λ a. leb 1 a && leb a size) ls && eqb (before + sum_by (λ a. a) ls) held)
unfolding blocks_sound
blocks_cut size held before [] = ap (λ n. eqb n held) (omega arith)
blocks_cut size held before (a ∷ ls) =
    simp (and_assoc, blocks_cut size held (before + a) ls, sum_by-cons (λ (a : ℕ). a), add_assoc)
