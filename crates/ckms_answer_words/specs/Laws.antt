-- The statements that are promised of the CKMS's written words beside each conversion's own contract; their proofs are in proofs/.
-- Assumes nothing: these are statements.
use Rattle.std.specs.Prelude.{◌≡◌}
use Rattle.ckms_steps.specs.declared.CKMS.{CKMS}
use Rattle.ckms_words.specs.Ckmses as ckms

-- the words of a state are read as that state again
unfoldable pub CkmsBack : Type 0
CkmsBack = (c : CKMS) → ckms.Narrow (ckms.words_of c) → ckms.ckms_of (ckms.words_of c) ≡ c
