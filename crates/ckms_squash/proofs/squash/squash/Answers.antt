-- `ckms_squash::squash::squash` meets its contract: the first block's pass and the others' are the whole pass.
-- Assumes nothing.
use mathlib.Core.Path.{refl}
use native.Mathlib.Omega.{arith}
use lib.ListN.{get_or, length-map}
use Rattle.entries.specs.Entry.{entry_of, entries_of}
use Rattle.ckms_squash.proofs.Squashes.{next_block, squash_done}
use Rattle.ckms_squash.proofs.squash.squash.Goals as goal

pub returns : goal.returns
returns c =
    let es = entries_of c.args.rows.now in
    let ls = c.args.lens.now in
    squash_done c.args.error.fraction es ls (get_or ls 0 0) c.pass-w.result (entries_of c.pass-w.new.rows) (omega (arith, length-map c.args.rows.now entry_of, next_block ls 0 c.requires.block, c.requires.first, c.requires.all)) c.requires.block (omega (arith, c.requires.first)) refl c.pass-w.ensures
    c.finish.result (entries_of c.finish.new.rows) c.finish.new.lens c.finish.ensures
