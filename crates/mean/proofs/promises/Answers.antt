-- `promises` meets its contract: each outcome is an equation's right side, and the readings are computed in `Examples`.
-- Assumes nothing.
use mathlib.Core.Path.{sym, ◌∙◌}
use Rattle.mean.proofs.Examples.{readings}
use Rattle.mean.proofs.promises.Goals as goal

pub returns : goal.returns
returns c =
    record {
      one_first = λ v r s h k. h.answered ∙ sym k.answered;
      one_next = λ m v n r s h k. h.answered ∙ sym k.answered;
      readings = readings;
    }
