-- What the soundness test says, rule by rule, and back. Assumes nothing.
use mathlib.Core.Path.{◌≡◌}
use mathlib.Core.Bool.{true, ◌&&◌}
use mathlib.Core.List.{List, [], ◌∷◌}
use Prim.Native.Nat.{ℕ, ◌+◌, ◌≤◌}
use native.Mathlib.Omega.{arith}
use borrow.Author.Tests.{leb-true, le-leb, eqb-true, eq-eqb}
use lib.Dec.{leb, eqb}
use Rattle.fraction.specs.Allowed.{is_error}
use Rattle.entries.specs.declared.Entry.{Entry}
use Rattle.entries.specs.Entry.{values, sum_g}
use Rattle.entries.specs.Ranks.{Rising}
use Rattle.entries.proofs.Guards.{both}
use Rattle.ckms_theory.specs.Blocks.{total}
use Rattle.ckms_theory.specs.Lists.{entries_sound, blocks_sound}
use Rattle.ckms_store_steps.specs.declared.Store.{Store}
use Rattle.ckms_store_steps.specs.Limits.{slots, sizes, observations, deltas, slots_ok, size_ok}
use Rattle.ckms_store_steps.specs.Sound.{words_sound, EachCounts, EachFits}

pub slots_facts : (rows places : ℕ) → slots_ok rows places ≡ true → (1 ≤ rows) × (rows ≤ 4096) × (places ≡ rows)
slots_facts rows places h =
    let a = both (leb 1 rows) (leb rows slots && eqb places rows) h in
    let b = both (leb rows slots) (eqb places rows) a.1 in
    (leb-true 1 rows a.0, leb-true rows slots b.0, eqb-true places rows b.1)

pub facts_slots : (rows places : ℕ) → 1 ≤ rows → rows ≤ 4096 → places ≡ rows → slots_ok rows places ≡ true
facts_slots rows places a b c = simp (le-leb 1 rows a, le-leb rows slots b, eq-eqb places rows c)

pub size_facts : (size : ℕ) → size_ok size ≡ true → (1 ≤ size) × (size ≤ 4096)
size_facts size h = let a = both (leb 1 size) (leb size sizes) h in (leb-true 1 size a.0, leb-true size sizes a.1)

module _ (s : Store) (rows places : ℕ) where
  pub words_facts : words_sound s rows places ≡ true → (is_error s.error ≡ true) × (s.n ≤ observations) × (s.held ≤ rows) × (size_ok s.block ≡ true) × (s.blocks ≤ places)
  words_facts h =
      let a = both (is_error s.error) (leb s.n observations && (leb s.held rows && (size_ok s.block && leb s.blocks places))) h in
      let b = both (leb s.n observations) (leb s.held rows && (size_ok s.block && leb s.blocks places)) a.1 in
      let c = both (leb s.held rows) (size_ok s.block && leb s.blocks places) b.1 in
      let d = both (size_ok s.block) (leb s.blocks places) c.1 in
      (a.0, leb-true s.n observations b.0, leb-true s.held rows c.0, d.0, leb-true s.blocks places d.1)

  pub facts_words : is_error s.error ≡ true → s.n ≤ observations → s.held ≤ rows → size_ok s.block ≡ true → s.blocks ≤ places → words_sound s rows places ≡ true
  facts_words a b c d e = rw (a, le-leb s.n observations b, le-leb s.held rows c, d, le-leb s.blocks places e)

module _ (n : ℕ) where
  pub entries_facts : (low sum : ℕ) (es : List Entry) → entries_sound deltas n low sum es ≡ true → Rising low (values es) × EachCounts es × (sum + sum_g es ≡ n)
  unfolding entries_sound
  entries_facts low sum [] h = (tt, tt, omega (arith, eqb-true sum n h))
  entries_facts low sum (e ∷ es) h =
      let a = both (leb low e.v) (leb 1 e.g && (leb e.delta deltas && entries_sound deltas n e.v (sum + e.g) es)) h in
      let b = both (leb 1 e.g) (leb e.delta deltas && entries_sound deltas n e.v (sum + e.g) es) a.1 in
      let c = both (leb e.delta deltas) (entries_sound deltas n e.v (sum + e.g) es) b.1 in
      let r = entries_facts e.v (sum + e.g) es c.1 in
      ((leb-true low e.v a.0, r.0), (leb-true 1 e.g b.0, leb-true e.delta deltas c.0, r.1), omega (arith, r.2))

  pub facts_entries : (low sum : ℕ) (es : List Entry) → Rising low (values es) → EachCounts es → sum + sum_g es ≡ n → entries_sound deltas n low sum es ≡ true
  unfolding entries_sound
  facts_entries low sum [] r c e = eq-eqb sum n (omega arith)
  facts_entries low sum (f ∷ fs) r c e =
      rw (le-leb low f.v r.0, le-leb 1 f.g c.0, le-leb f.delta deltas c.1) (facts_entries f.v (sum + f.g) fs r.1 c.2 (omega arith))

module _ (size held : ℕ) where
  pub blocks_facts : (sum : ℕ) (ls : List ℕ) → blocks_sound size held sum ls ≡ true → EachFits size ls × (sum + total ls ≡ held)
  unfolding blocks_sound
  blocks_facts sum [] h = (tt, omega (arith, eqb-true sum held h))
  blocks_facts sum (a ∷ ls) h =
      let b = both (leb 1 a) (leb a size && blocks_sound size held (sum + a) ls) h in
      let c = both (leb a size) (blocks_sound size held (sum + a) ls) b.1 in
      let r = blocks_facts (sum + a) ls c.1 in
      ((leb-true 1 a b.0, leb-true a size c.0, r.0), omega (arith, r.1))

  pub facts_blocks : (sum : ℕ) (ls : List ℕ) → EachFits size ls → sum + total ls ≡ held → blocks_sound size held sum ls ≡ true
  unfolding blocks_sound
  facts_blocks sum [] f e = eq-eqb sum held (omega arith)
  facts_blocks sum (a ∷ ls) f e = rw (le-leb 1 a f.0, le-leb a size f.1) (facts_blocks (sum + a) ls f.2 (omega arith))
