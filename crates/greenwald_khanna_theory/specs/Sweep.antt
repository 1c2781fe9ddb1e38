-- Compression as the Rust does it: i from held - 2 down to 1, each entry tried against the one behind it in the list as it then is.
-- Assumes nothing: these are definitions.
use Rattle.std.specs.Prelude.{ℕ, zero, suc, List, ◌++◌, get_or, take, drop}
use Rattle.entries.specs.declared.Entry.{Entry}
use Rattle.entries.specs.Entry.{zero_entry}
use Rattle.greenwald_khanna_theory.specs.Summary.{step}

-- entry i deleted into the one behind it, or left
unfoldable pub try_at : ℕ → ℕ → List Entry → List Entry
try_at p i es = take i es ++ step p (get_or es i zero_entry) (drop (suc i) es)

-- i from k down to 1
unfoldable pub sweep : ℕ → ℕ → List Entry → List Entry
sweep p zero es = es
sweep p (suc k) es = sweep p k (try_at p (suc k) es)
