-- `noise_floor::promises` meets its contract: each promise is a theorem.
-- Assumes nothing.
use Rattle.noise_floor.proofs.Abacus.{computed}
use Rattle.noise_floor.proofs.Bounds.{demand3}
use Rattle.noise_floor.proofs.Outcomes.{one_floor}
use Rattle.noise_floor.proofs.promises.Goals as goal

pub returns : goal.returns
returns c = record { demand3 = demand3; one_floor = one_floor; readings = computed }
