-- What the contract of `floor` allows for one input is one outcome: its equations fix the answer and every word of the lent rows.
-- Assumes nothing.
use mathlib.Core.Path.{sym, ◌∙◌}
use Rattle.entries.proofs.Maps.{same_words}
use Rattle.noise_floor.specs.Promises.{OneFloor}

pub one_floor : OneFloor
unfolding OneFloor
one_floor ε before obs φ a b xs ys s t h k = (h.answered ∙ sym k.answered, same_words xs ys s t (h.left ∙ sym k.left))
