-- The tests of every call but opening, and the state of a store by what it holds.
-- Assumes nothing: these are definitions.
use Rattle.std.specs.Prelude.{ℕ, cond, not, List, length, Result, Ok, Err}
use Rattle.refusal.specs.declared.Refusal.{Refusal}
use Rattle.refusal.specs.declared.Refusal.TheVariants.{Slots, Damaged}
use Rattle.entries.specs.declared.Entry.{Entry}
use Rattle.ckms_store_steps.specs.declared.Store.{Store}
use Rattle.ckms_store_steps.specs.Held.{Held}
use Rattle.ckms_store_steps.specs.Limits.{slots_ok}
use Rattle.ckms_store_steps.specs.Sound.{sound}

-- every call but opening: SLOTS, DAMAGED; else its own answer
abbrev pub tested : {A : Type 0} → Store → List Entry → List ℕ → Result A Refusal → Result A Refusal
tested s list lens answer =
    cond (not (slots_ok (length list) (length lens))) (Err Slots)
    (cond (not (sound s list lens)) (Err Damaged)
    answer)

unfoldable pub checked : Store → List Entry → List ℕ → Result (Unit {0}) Refusal
checked s list lens = tested s list lens (Ok tt)

-- the state of a store that took n observations and holds h
abbrev pub state_of : Store → ℕ → Held → Store
state_of s n h = record { error = s.error; n = n; held = length h.entries; block = s.block; blocks = length h.blocks }
