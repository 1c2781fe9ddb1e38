-- What each contract allows for one input is one outcome: its equations fix the answer and every word of the lent lists.
-- Assumes nothing.
use mathlib.Core.Path.{sym, ◌∙◌}
use Rattle.entries.proofs.Maps.{same_words}
use Rattle.ckms.specs.Promises.{OneOpening, OneInsert}

pub one_opening : OneOpening
unfolding OneOpening
one_opening error list lens a b xs ys ls ms s t h k =
    (h.answered ∙ sym k.answered, same_words xs ys s t (h.entries ∙ sym k.entries), h.blocks ∙ sym k.blocks)

pub one_insert : OneInsert
unfolding OneInsert
one_insert c list lens x a b xs ys ls ms s t h k =
    (h.answered ∙ sym k.answered, same_words xs ys s t (h.entries ∙ sym k.entries), h.blocks ∙ sym k.blocks)
