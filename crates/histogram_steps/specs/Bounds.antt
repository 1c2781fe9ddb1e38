-- The rules of opening.
-- Assumes nothing: these are definitions.
use Rattle.std.specs.Prelude.{ℕ, Bool, ◌&&◌, List, leb, length}
use Rattle.entries.specs.Order.{rising}

-- the most bounds
abbrev pub bounds : ℕ
bounds = 1024

-- 1 to 1,024 bounds that never fall
abbrev pub allowed : List ℕ → Bool
allowed bs = leb 1 (length bs) && (leb (length bs) bounds && rising 0 bs)
