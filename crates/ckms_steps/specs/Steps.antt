-- What the inner steps ask, answer and leave: the test of every call but opening, the mean after an insert, and an insert once its tests are passed.
-- Assumes nothing: these are definitions.
use Rattle.std.specs.Prelude.{◌≡◌, ℕ, suc, true, cond, not, List, length, Option, Some, Result, Ok, Err}
use Rattle.refusal.specs.declared.Refusal.{Refusal}
use Rattle.refusal.specs.declared.Refusal.TheVariants.{Slots, Damaged}
use Rattle.entries.specs.declared.Entry.{Entry}
use Rattle.entries.specs.Entry.{zero_entry}
use Rattle.entries.specs.Lists.{layout}
use Rattle.mean.specs.declared.Mean.{Mean}
use Rattle.ckms_store_steps.specs.Held.{Held, held_in}
use Rattle.ckms_store_steps.specs.Limits.{slots_ok}
use Rattle.ckms_store_work.specs.Changes.{put_in}
use Rattle.ckms_steps.specs.declared.CKMS.{CKMS}
use Rattle.ckms_steps.specs.State.{samples, count_on, taken, cma_after, cma_sound, cma_in_range, sound}

-- every call but opening: SLOTS, DAMAGED; else its own answer
abbrev pub tested : {A : Type 0} → CKMS → List Entry → List ℕ → Result A Refusal → Result A Refusal
tested c list lens answer =
    cond (not (slots_ok (length list) (length lens))) (Err Slots)
    (cond (not (sound c list lens)) (Err Damaged)
    answer)

unfoldable pub checked : CKMS → List Entry → List ℕ → Result (Unit {0}) Refusal
checked c list lens = tested c list lens (Ok tt)

-- the mean after an insert, and that it stays sound and in range
pub record CmaPost (c : Option Mean) (v n : ℕ) (r : Option Mean) : Type 0 where
  pub answered : r ≡ cma_after c v n
  pub kept : (m : ℕ) → suc m ≡ n → cma_sound m c ≡ true → cma_sound n r ≡ true
  pub ranged : (m : ℕ) → suc m ≡ n → cma_sound m c ≡ true → cma_in_range c ≡ true → cma_in_range r ≡ true

-- lent lists and a state that pass the tests of every call
pub record Ready (c : CKMS) (list : List Entry) (lens : List ℕ) : Type 0 where
  pub allowed : slots_ok (length list) (length lens) ≡ true
  pub sound : sound c list lens ≡ true

-- what is held after an accepted insert
abbrev pub taken_in : CKMS → List Entry → List ℕ → ℕ → Held
taken_in c list lens x = taken c.error c.inserts x (held_in (samples c) list lens)

-- the state after x was accepted and h is held
abbrev pub state_of : CKMS → Held → ℕ → CKMS
state_of c h x = record {
  error = c.error;
  n = suc c.n;
  held = length h.entries;
  blocks = length h.blocks;
  inserts = count_on c.error c.inserts;
  last_in = Some x;
  cma = cma_after c.cma x (suc c.n);
}

-- the lent lists after it: zeros in the places freed in the call, the rest as it was. No more is held at any moment than before the compression
abbrev pub new_list : CKMS → List Entry → List ℕ → ℕ → List Entry
new_list c list lens x = layout zero_entry (taken_in c list lens x).entries (suc c.held) list

abbrev pub new_lens : CKMS → List Entry → List ℕ → ℕ → List ℕ
new_lens c list lens x = layout 0 (taken_in c list lens x).blocks (length (put_in (samples c) list lens x).blocks) lens

-- one observation more
pub record TakePost (c : CKMS) (list : List Entry) (lens : List ℕ) (x : ℕ) (after : CKMS) (list' : List Entry) (lens' : List ℕ) : Type 0 where
  pub state : after ≡ state_of c (taken_in c list lens x) x
  pub entries : list' ≡ new_list c list lens x
  pub blocks : lens' ≡ new_lens c list lens x
  pub kept : sound after list' lens' ≡ true
  pub ranged : cma_in_range c.cma ≡ true → cma_in_range after.cma ≡ true
