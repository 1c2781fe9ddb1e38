-- When each refusal is given: exactly in the case that the table lists for it, no earlier test having refused.
-- Assumes nothing: these are definitions.
use Rattle.std.specs.Prelude.{◌≡◌, true, false, ◌↔◌, ℕ, ◌<◌, List, length, Ok, Err}
use Rattle.refusal.specs.declared.Refusal.{Refusal}
use Rattle.refusal.specs.declared.Refusal.TheVariants.{Slots, Epsilon, Block, Damaged, Count, Full, Phi, Empty}
use Rattle.fraction.specs.declared.Fraction.{Fraction}
use Rattle.fraction.specs.Allowed.{is_phi, is_error}
use Rattle.entries.specs.declared.Entry.{Entry}
use Rattle.ckms_theory.specs.declared.Ranked.{Ranked}
use Rattle.ckms_store_steps.specs.declared.Store.{Store}
use Rattle.ckms_store_steps.specs.Answers.{checked}
use Rattle.ckms_store_steps.specs.Limits.{observations, slots_ok, size_ok}
use Rattle.ckms_store_steps.specs.Sound.{sound}
use Rattle.ckms_store_steps.specs.Opening.{opened}
use Rattle.ckms_store_work.specs.Steps.{Ready}
use Rattle.ckms_store.specs.Answers.{inserted, compressed, len_of, empty_of, queried}

pub record OpenExactly (error : Fraction) (block : ℕ) (list : List Entry) (lens : List ℕ) : Type 0 where
  pub slots : opened error block list lens ≡ Err Slots ↔ slots_ok (length list) (length lens) ≡ false
  pub epsilon : opened error block list lens ≡ Err Epsilon ↔ ((slots_ok (length list) (length lens) ≡ true) × (is_error error ≡ false))
  pub size : opened error block list lens ≡ Err Block
      ↔ ((slots_ok (length list) (length lens) ≡ true) × (is_error error ≡ true) × (size_ok block ≡ false))
  pub opens : ((s : Store) × (opened error block list lens ≡ Ok s))
      ↔ ((slots_ok (length list) (length lens) ≡ true) × (is_error error ≡ true) × (size_ok block ≡ true))

-- the tests of every other call; compress, len and is_empty refuse exactly as they do
pub record CheckExactly (s : Store) (list : List Entry) (lens : List ℕ) : Type 0 where
  pub slots : checked s list lens ≡ Err Slots ↔ slots_ok (length list) (length lens) ≡ false
  pub damaged : checked s list lens ≡ Err Damaged ↔ ((slots_ok (length list) (length lens) ≡ true) × (sound s list lens ≡ false))
  pub passes : checked s list lens ≡ Ok tt ↔ Ready s list lens
  pub compresses : (why : Refusal) → compressed s list lens ≡ Err why ↔ checked s list lens ≡ Err why
  pub counts : (why : Refusal) → len_of s list lens ≡ Err why ↔ checked s list lens ≡ Err why
  pub tells : (why : Refusal) → empty_of s list lens ≡ Err why ↔ checked s list lens ≡ Err why

-- COUNT: n is at its limit. FULL: as many entries are held as there are slots
pub record InsertExactly (s : Store) (list : List Entry) (lens : List ℕ) (x : ℕ) : Type 0 where
  pub slots : inserted s list lens x ≡ Err Slots ↔ slots_ok (length list) (length lens) ≡ false
  pub damaged : inserted s list lens x ≡ Err Damaged ↔ ((slots_ok (length list) (length lens) ≡ true) × (sound s list lens ≡ false))
  pub count : inserted s list lens x ≡ Err Count ↔ (Ready s list lens × (s.n ≡ observations))
  pub full : inserted s list lens x ≡ Err Full ↔ (Ready s list lens × (s.n < observations) × (s.held ≡ length list))
  pub taken : ((next : Store) × (inserted s list lens x ≡ Ok next)) ↔ (Ready s list lens × (s.n < observations) × (s.held < length list))

-- EMPTY: nothing was accepted
pub record QueryExactly (s : Store) (list : List Entry) (lens : List ℕ) (q : Fraction) : Type 0 where
  pub slots : queried s list lens q ≡ Err Slots ↔ slots_ok (length list) (length lens) ≡ false
  pub damaged : queried s list lens q ≡ Err Damaged ↔ ((slots_ok (length list) (length lens) ≡ true) × (sound s list lens ≡ false))
  pub phi : queried s list lens q ≡ Err Phi ↔ (Ready s list lens × (is_phi q ≡ false))
  pub empty : queried s list lens q ≡ Err Empty ↔ (Ready s list lens × (is_phi q ≡ true) × (s.n ≡ 0))
  pub given : ((a : Ranked) × (queried s list lens q ≡ Ok a)) ↔ (Ready s list lens × (is_phi q ≡ true) × (0 < s.n))
