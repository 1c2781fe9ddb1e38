-- `ckms_store_steps::Store::open` meets its contract: each refusal in its case, or a fresh store over zeroed lists.
-- Assumes nothing.
use mathlib.Core.Path.{◌≡◌}
use lib.ListN.{length, replicate, length-map}
use Rattle.std.proofs.Common.{arith}
use Rattle.std.proofs.lemmas.Grind.{common_steps}
use Rattle.std.proofs.lemmas.List.Elements.{same_from_all_zip}
use Rattle.entries.specs.Entry.{zero_entry, row_of, entry_of, entries_of}
use Rattle.entries.proofs.Maps.{map_replicate}
use Rattle.ckms_store_steps.specs.Opening.{opened}
use Rattle.ckms_store_steps.proofs.Openings.{open_refused, open_fresh}
use Rattle.ckms_store_steps.proofs.Store.open.Goals as goal

pub returns-then-not-slots_ok : goal.returns-then-not-slots_ok
unfolding opened
returns-then-not-slots_ok c =
    open_refused c.args.error c.args.block (entries_of c.args.rows.now) c.args.lens.now _ (rw (length-map c.args.rows.now entry_of) (grind (arith, common_steps)))

pub returns-then-not-is_error : goal.returns-then-not-is_error
unfolding opened
returns-then-not-is_error c =
    open_refused c.args.error c.args.block (entries_of c.args.rows.now) c.args.lens.now _ (rw (length-map c.args.rows.now entry_of) (grind (arith, common_steps)))

pub returns-then-not-size_ok : goal.returns-then-not-size_ok
unfolding opened
returns-then-not-size_ok c =
    open_refused c.args.error c.args.block (entries_of c.args.rows.now) c.args.lens.now _ (rw (length-map c.args.rows.now entry_of) (grind (arith, common_steps)))

pub returns : goal.returns
unfolding opened
returns c =
    let rows = c.args.rows.now in
    let old = length-map rows entry_of in
    let zeros : c.fill.new.self ≡ replicate (length rows) (row_of zero_entry) = c.fill.ensures.after (λ y e. same_from_all_zip _ _ y e.whole (λ a b s. s)) in
    open_fresh c.args.error c.args.block (entries_of rows) c.args.lens.now (rw old (grind (arith, common_steps))) (grind (arith, common_steps)) (grind (arith, common_steps))
    (entries_of c.fill.new.self) c.fill-2.new.self (rw (old, zeros) (map_replicate entry_of (length rows) (row_of zero_entry))) (c.fill-2.ensures.after (λ y e. e))
