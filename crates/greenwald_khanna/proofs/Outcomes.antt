-- What each contract allows for one input is one outcome: its equations fix the answer and every word of the lent rows.
-- Assumes nothing.
use mathlib.Core.Path.{sym, ◌∙◌}
use Rattle.entries.proofs.Maps.{same_words}
use Rattle.greenwald_khanna.specs.Promises.{OneOpening, OneInsert, OneQuantile}

pub one_opening : OneOpening
unfolding OneOpening
one_opening ε before a b xs ys s t h k = (h.answered ∙ sym k.answered, same_words xs ys s t (h.left ∙ sym k.left))

pub one_insert : OneInsert
unfolding OneInsert
one_insert st before x a b xs ys s t h k = (h.answered ∙ sym k.answered, same_words xs ys s t (h.left ∙ sym k.left))

pub one_quantile : OneQuantile
unfolding OneQuantile
one_quantile st list φ a b h k = h.answered ∙ sym k.answered
