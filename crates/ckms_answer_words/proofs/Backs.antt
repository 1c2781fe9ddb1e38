-- The words of a CKMS are read as that CKMS again.
-- Assumes nothing.
use mathlib.Core.Path.{◌≡◌}
use Prim.Native.Nat.{ℕ}
use mathlib.Core.Bool.{true}
use Rattle.std.specs.Prelude.{Option, Some, None}
use Rattle.mean.specs.declared.Mean.{Mean}
use Rattle.ckms_steps.specs.declared.CKMS.{CKMS}
use Rattle.ckms_words.specs.Ckmses as ckms
use Rattle.ckms_words.proofs.Fitting.{narrow_holds}
use Rattle.ckms_answer_words.specs.Laws.{CkmsBack}

pub ckms_back : CkmsBack
unfolding CkmsBack
ckms_back c h = go c.last_in c.cma (narrow_holds (ckms.words_of c) h)
  where
    with : Option ℕ → Option Mean → CKMS
    with x m = record { error = c.error; n = c.n; held = c.held; blocks = c.blocks; inserts = c.inserts; last_in = x; cma = m }

    go : (x : Option ℕ) (m : Option Mean) → ckms.narrow (ckms.words_of (with x m)) ≡ true → ckms.ckms_of (ckms.words_of (with x m)) ≡ with x m
    go None None t = rw t
    go None (Some m) t = rw t
    go (Some v) None t = rw t
    go (Some v) (Some m) t = rw t
