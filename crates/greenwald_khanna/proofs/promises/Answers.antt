-- `greenwald_khanna::promises` meets its contract: each promise is a theorem.
-- Assumes nothing.
use Rattle.greenwald_khanna_steps.proofs.Sounds.{sums_to_n}
use Rattle.greenwald_khanna_steps.specs.Opening.{opened_list}
use Rattle.greenwald_khanna.specs.Promises.{FreshSound, AcceptedSound, SumsToN}
use Rattle.greenwald_khanna_told.proofs.Exactly.{told_exactly}
use Rattle.greenwald_khanna.proofs.Exactly.{open_exactly, insert_exactly, quantile_exactly}
use Rattle.greenwald_khanna_steps.proofs.Fresh.{opened_fresh}
use Rattle.greenwald_khanna.proofs.Kept.{inserted_kept}
use Rattle.greenwald_khanna.proofs.Outcomes.{one_opening, one_insert, one_quantile}
use Rattle.greenwald_khanna.proofs.promises.Goals as goal

pub returns : goal.returns
unfolding FreshSound AcceptedSound SumsToN
returns c = record {
  fresh_sound = λ ε list st e. (opened_fresh ε list st e (opened_list ε list)).0;
  accepted_sound = λ st list x next e. (inserted_kept st list x next e).sound_is;
  sums_to_n = sums_to_n;
  open_exactly = open_exactly;
  insert_exactly = insert_exactly;
  quantile_exactly = quantile_exactly;
  told_exactly = told_exactly;
  one_opening = one_opening;
  one_insert = one_insert;
  one_quantile = one_quantile;
}
