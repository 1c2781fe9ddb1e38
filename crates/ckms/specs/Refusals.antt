-- When each refusal is given: exactly in the case that the table lists for it, no earlier test having refused.
-- Assumes nothing: these are definitions.
use Rattle.std.specs.Prelude.{◌≡◌, true, false, ◌↔◌, ℕ, ◌<◌, List, length, Ok, Err}
use Rattle.refusal.specs.declared.Refusal.{Refusal}
use Rattle.refusal.specs.declared.Refusal.TheVariants.{Slots, Epsilon, Damaged, Count, Full, Phi, Empty}
use Rattle.fraction.specs.declared.Fraction.{Fraction}
use Rattle.fraction.specs.Allowed.{is_phi, is_error}
use Rattle.entries.specs.declared.Entry.{Entry}
use Rattle.ckms_theory.specs.declared.Ranked.{Ranked}
use Rattle.ckms_store_steps.specs.Limits.{observations, slots_ok}
use Rattle.ckms_steps.specs.declared.CKMS.{CKMS}
use Rattle.ckms_steps.specs.State.{sound}
use Rattle.ckms_steps.specs.Steps.{checked, Ready}
use Rattle.ckms_steps.specs.Opening.{opened}
use Rattle.ckms_told.specs.Answers.{count_of, last_of, cma_of, error_of}
use Rattle.ckms.specs.Answers.{inserted, queried}

pub record OpenExactly (error : Fraction) (list : List Entry) (lens : List ℕ) : Type 0 where
  pub slots : opened error list lens ≡ Err Slots ↔ slots_ok (length list) (length lens) ≡ false
  pub epsilon : opened error list lens ≡ Err Epsilon ↔ ((slots_ok (length list) (length lens) ≡ true) × (is_error error ≡ false))
  pub opens : ((c : CKMS) × (opened error list lens ≡ Ok c)) ↔ ((slots_ok (length list) (length lens) ≡ true) × (is_error error ≡ true))

-- the tests of every other call; count, last, cma and error_bound refuse exactly as they do
pub record CheckExactly (c : CKMS) (list : List Entry) (lens : List ℕ) : Type 0 where
  pub slots : checked c list lens ≡ Err Slots ↔ slots_ok (length list) (length lens) ≡ false
  pub damaged : checked c list lens ≡ Err Damaged ↔ ((slots_ok (length list) (length lens) ≡ true) × (sound c list lens ≡ false))
  pub passes : checked c list lens ≡ Ok tt ↔ Ready c list lens
  pub counts : (why : Refusal) → count_of c list lens ≡ Err why ↔ checked c list lens ≡ Err why
  pub tells : (why : Refusal) → last_of c list lens ≡ Err why ↔ checked c list lens ≡ Err why
  pub averages : (why : Refusal) → cma_of c list lens ≡ Err why ↔ checked c list lens ≡ Err why
  pub bounds : (why : Refusal) → error_of c list lens ≡ Err why ↔ checked c list lens ≡ Err why

-- COUNT: n is at its limit. FULL: as many entries are held as there are slots
pub record InsertExactly (c : CKMS) (list : List Entry) (lens : List ℕ) (x : ℕ) : Type 0 where
  pub slots : inserted c list lens x ≡ Err Slots ↔ slots_ok (length list) (length lens) ≡ false
  pub damaged : inserted c list lens x ≡ Err Damaged ↔ ((slots_ok (length list) (length lens) ≡ true) × (sound c list lens ≡ false))
  pub count : inserted c list lens x ≡ Err Count ↔ (Ready c list lens × (c.n ≡ observations))
  pub full : inserted c list lens x ≡ Err Full ↔ (Ready c list lens × (c.n < observations) × (c.held ≡ length list))
  pub taken : ((next : CKMS) × (inserted c list lens x ≡ Ok next)) ↔ (Ready c list lens × (c.n < observations) × (c.held < length list))

-- EMPTY: nothing was accepted
pub record QueryExactly (c : CKMS) (list : List Entry) (lens : List ℕ) (q : Fraction) : Type 0 where
  pub slots : queried c list lens q ≡ Err Slots ↔ slots_ok (length list) (length lens) ≡ false
  pub damaged : queried c list lens q ≡ Err Damaged ↔ ((slots_ok (length list) (length lens) ≡ true) × (sound c list lens ≡ false))
  pub phi : queried c list lens q ≡ Err Phi ↔ (Ready c list lens × (is_phi q ≡ false))
  pub empty : queried c list lens q ≡ Err Empty ↔ (Ready c list lens × (is_phi q ≡ true) × (c.n ≡ 0))
  pub given : ((a : Ranked) × (queried c list lens q ≡ Ok a)) ↔ (Ready c list lens × (is_phi q ≡ true) × (0 < c.n))
