-- What an insert leaves that compresses the store when its time has come.
-- Assumes nothing: these are definitions.
use Rattle.std.specs.Prelude.{ℕ, suc, cond, List, eqb, length}
use Rattle.entries.specs.declared.Entry.{Entry}
use Rattle.ckms_store_steps.specs.declared.Store.{Store}
use Rattle.ckms_store_work.specs.Changes.{tidy, put_in}
use Rattle.ckms_store_work.specs.Steps.{Left}

-- the store within after an insert: compressed if the insert counter, `inserts` after it, is 0
abbrev pub GrowPost : Store → ℕ → List Entry → List ℕ → ℕ → Store → List Entry → List ℕ → Type 0
GrowPost s inserts list lens x after list' lens' =
    Left s (suc s.n) (cond (eqb inserts 0) (tidy s.error s.block (put_in s list lens x)) (put_in s list lens x)) (suc s.held) (length (put_in s list lens x).blocks) list lens after list' lens'
