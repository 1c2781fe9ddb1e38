-- `ckms_store_steps::Store::is_sound` meets its contract: test by test, on the parts in use.
-- Assumes nothing.
use mathlib.Core.Path.{sym, ◌∙◌}
use lib.ListN.{length-map}
use Rattle.entries.specs.Entry.{entry_of}
use Rattle.entries.proofs.Maps.{map_take}
use Rattle.ckms_store_steps.specs.Sound.{sound}
use Rattle.ckms_store_steps.proofs.Store.is_sound.Goals as goal
use Rattle.ckms_store_steps.proofs.Store.is_sound.Goals.{then-words_sound, else-words_sound}

pub returns-then-entries_sound : goal.returns-then-entries_sound
unfolding sound
returns-then-entries_sound c =
    let rows = c.args.rows.now in
    elim c.if-words_sound.branch [
      | then-words_sound w ↦
          let e = rw (map_take entry_of c.args.self.held rows) at (sym w.entries_sound.ensures ∙ sym w.value-is ∙ c.if-entries_sound.true) in
          rw (length-map rows entry_of, sym c.words_sound.ensures ∙ w.if-words_sound.true, e) c.blocks_sound.ensures
      | else-words_sound w ↦ cc
    ]

pub returns-else-entries_sound : goal.returns-else-entries_sound
unfolding sound
returns-else-entries_sound c =
    let rows = c.args.rows.now in
    elim c.if-words_sound.branch [
      | then-words_sound w ↦
          let e = rw (map_take entry_of c.args.self.held rows) at (sym w.entries_sound.ensures ∙ sym w.value-is ∙ c.if-entries_sound.false) in
          rw (length-map rows entry_of, sym c.words_sound.ensures ∙ w.if-words_sound.true, e) c.if-entries_sound.false
      | else-words_sound w ↦
          rw (length-map rows entry_of, sym c.words_sound.ensures ∙ w.if-words_sound.false) c.if-entries_sound.false
    ]
