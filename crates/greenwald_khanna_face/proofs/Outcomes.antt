-- What each contract allows for one input is one outcome: its equations fix the answer and the list.
-- Assumes nothing.
use mathlib.Core.Path.{sym, ◌∙◌}
use Rattle.greenwald_khanna_face.specs.Promises.{OneOpening, OneInsert}

pub one_opening : OneOpening
unfolding OneOpening
one_opening ε before a b xs ys h k = (h.answered ∙ sym k.answered, h.left ∙ sym k.left)

pub one_insert : OneInsert
unfolding OneInsert
one_insert st before x a b xs ys h k = (h.answered ∙ sym k.answered, h.left ∙ sym k.left)
