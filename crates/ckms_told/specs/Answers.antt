-- What count, last, cma and error_bound of a CKMS answer on every input: SLOTS, DAMAGED, or what is told.
-- Assumes nothing: these are definitions.
use Rattle.std.specs.Prelude.{ℕ, List, Option, Result, Ok}
use Rattle.refusal.specs.declared.Refusal.{Refusal}
use Rattle.fraction.specs.declared.Fraction.{Fraction}
use Rattle.entries.specs.declared.Entry.{Entry}
use Rattle.mean.specs.declared.Mean.{Mean}
use Rattle.ckms_steps.specs.declared.CKMS.{CKMS}
use Rattle.ckms_steps.specs.Steps.{tested}

-- how many observations were accepted
unfoldable pub count_of : CKMS → List Entry → List ℕ → Result ℕ Refusal
count_of c list lens = tested c list lens (Ok c.n)

-- the last of them, or none
unfoldable pub last_of : CKMS → List Entry → List ℕ → Result (Option ℕ) Refusal
last_of c list lens = tested c list lens (Ok c.last_in)

-- their running mean, or none
unfoldable pub cma_of : CKMS → List Entry → List ℕ → Result (Option Mean) Refusal
cma_of c list lens = tested c list lens (Ok c.cma)

-- the error as opened
unfoldable pub error_of : CKMS → List Entry → List ℕ → Result Fraction Refusal
error_of c list lens = tested c list lens (Ok c.error)
