-- How many slots of a lent list a call can need.
-- Assumes nothing: these are definitions.
use Rattle.std.specs.Prelude.{ℕ, suc, cond, ltb}

-- those held and one more, or all where there is no more
abbrev pub reach : ℕ → ℕ → ℕ
reach held slots = cond (ltb held slots) (suc held) slots
