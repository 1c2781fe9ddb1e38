-- `ckms_theory::promises` meets its contract: the readings are computed.
-- Assumes nothing.
use Rattle.ckms_theory.proofs.Abacus.{computed}
use Rattle.ckms_theory.proofs.promises.Goals as goal

pub returns : goal.returns
returns c = computed
