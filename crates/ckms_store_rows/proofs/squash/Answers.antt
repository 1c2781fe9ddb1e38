-- `ckms_store_rows::squash` meets its contract: what is left, and zeros behind it.
-- Assumes nothing.
use Rattle.std.proofs.Common.{rules, ◌≡◌, ◌++◌, ◌-◌, length, take, replicate}
use borrow.Rule.Slice.PartMut.{put_mid}
use Rattle.std.proofs.lemmas.Slice.{overwrites}
use Rattle.entries.specs.Entry.{row_of, zero_entry}
use Rattle.ckms_store_rows.proofs.Layouts.{squash_post}
use Rattle.ckms_store_rows.proofs.squash.Goals as goal

pub returns : goal.returns
returns c =
    let w = c.squash-left.result in
    let left = c.squash-left.new.rows in
    let zeroed : put_mid w (length left - w) left c.fill.new.self ≡ take w left ++ replicate (length c.args.rows.now - w) (row_of zero_entry) = search (rules, overwrites) in
    squash_post _ c.args.rows.now c.args.lens.now w left _ c.squash-left.new.lens c.squash-left.ensures zeroed
