-- What a squash leaves, with the rows behind it zeroed. Assumes nothing.
use mathlib.Core.Path.{◌≡◌, ap, ◌∙◌}
use mathlib.Core.List.{List, ◌++◌, map-append}
use Prim.Native.Nat.{ℕ, ◌-◌}
use lib.ListN.{length, take, replicate, length-map}
use Rattle.fraction.specs.declared.Fraction.{Fraction}
use Rattle.entries.specs.Entry.{zero_entry, entry_of, row_of, entries_of}
use Rattle.entries.proofs.Maps.{map_take, map_replicate}
use Rattle.ckms_theory.specs.Pass.{Squashed}
use Rattle.ckms_store_rows.specs.Parts.{SquashPost}

pub squash_post : (error : Fraction) (rows : List (List ℕ)) (lens : List ℕ) (after : ℕ) (left rows' : List (List ℕ)) (ls : List ℕ)
    → Squashed error (entries_of rows) lens after (entries_of left) ls → rows' ≡ take after left ++ replicate (length rows - after) (row_of zero_entry)
    → SquashPost error (entries_of rows) lens after (entries_of rows') ls
squash_post error rows lens after left rows' ls s e =
    let zeros = replicate (length rows - after) (row_of zero_entry) in
    record {
      count = s.count;
      entries = ap entries_of e ∙ map-append entry_of (take after left) zeros ∙ rw (map_take entry_of after left, map_replicate entry_of, s.list, length-map rows entry_of);
      lengths = s.blocks;
    }
