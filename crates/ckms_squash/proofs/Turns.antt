-- One step of the squash on rows, as a step on their entries. Assumes nothing.
use mathlib.Core.Path.{◌≡◌}
use mathlib.Core.Bool.{true, false}
use mathlib.Core.List.{List, []}
use Prim.Native.Nat.{ℕ, ◌+◌, ◌-◌}
use native.Mathlib.Numerals.{add-one}
use lib.ListN.{get_or, set}
use Rattle.fraction.specs.declared.Fraction.{Fraction}
use Rattle.entries.specs.Entry.{entry_of, entries_of}
use Rattle.entries.proofs.Maps.{map_set, entry_at_lem}
use Rattle.entries.proofs.Parts.{entry_at}
use Rattle.ckms_theory.specs.Pass.{Turned}
use Rattle.ckms_theory.specs.Squash.{merges, merged}

module _ (error : Fraction) (rows : List (List ℕ)) (w i : ℕ) where
  pub turn_merged : (row : List ℕ) → merges error i (entry_at rows (w - 1)) (entry_at rows i) ≡ true
      → entry_of row ≡ merged (entry_at rows (w - 1)) (entry_at rows i) → Turned error w i (entries_of rows) w (entries_of (set rows (w - 1) row))
  turn_merged row t e =
      rw (map_set entry_of rows (w - 1) row, e) record {
        place = rw (entry_at_lem rows (w - 1), entry_at_lem rows i, t);
        list = rw (entry_at_lem rows (w - 1), entry_at_lem rows i, t);
      }

  pub turn_kept : merges error i (entry_at rows (w - 1)) (entry_at rows i) ≡ false
      → Turned error w i (entries_of rows) (w + 1) (entries_of (set rows w (get_or rows i [])))
  turn_kept t =
      rw (map_set entry_of rows w (get_or rows i [])) record {
        place = rw (entry_at_lem rows (w - 1), entry_at_lem rows i, t) (add-one w);
        list = rw (entry_at_lem rows (w - 1), entry_at_lem rows i, t);
      }
