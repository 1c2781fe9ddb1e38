-- The soundness test and the rules it stands for are the same. Assumes nothing.
use mathlib.Core.Path.{◌≡◌, refl}
use mathlib.Core.Bool.{true, ◌&&◌, and-eq-true_iff}
use mathlib.Core.List.{List, [], ◌∷◌}
use Prim.Native.Nat.{ℕ, ◌≤◌}
use native.Mathlib.Omega.{arith}
use lib.ListN.{length, take}
use lib.Seq.{length-take-le}
use Rattle.entries.specs.declared.Entry.{Entry}
use Rattle.entries.specs.Entry.{sum_g}
use Rattle.ckms_theory.specs.Lists.{entries_sound, blocks_sound}
use Rattle.ckms_store_steps.specs.declared.Store.{Store}
use Rattle.ckms_store_steps.specs.Limits.{deltas}
use Rattle.ckms_store_steps.specs.Sound.{words_sound, sound, EachCounts, Rules}
use Rattle.ckms_store_steps.proofs.Tests.{words_facts, facts_words, entries_facts, facts_entries, blocks_facts, facts_blocks}

-- each entry counts at least once
pub count_least : (es : List Entry) → EachCounts es → length es ≤ sum_g es
count_least [] c = omega arith
count_least (e ∷ es) c = omega (arith, count_least es c.2)

pub sum_none : (es : List Entry) → length es ≡ 0 → sum_g es ≡ 0
sum_none [] h = refl
sum_none (e ∷ es) h = absurd (omega arith)

module _ (s : Store) (list : List Entry) (lens : List ℕ) where
  pub sound_rules : sound s list lens ≡ true → Rules s list lens
  unfolding sound
  sound_rules h =
      let a = (and-eq-true_iff (words_sound s (length list) (length lens)) (entries_sound deltas s.n 0 0 (take s.held list) && blocks_sound s.block s.held 0 (take s.blocks lens))).0 h in
      let b = (and-eq-true_iff (entries_sound deltas s.n 0 0 (take s.held list)) (blocks_sound s.block s.held 0 (take s.blocks lens))).0 a.1 in
      let w = words_facts s (length list) (length lens) a.0 in
      let e = entries_facts s.n 0 0 (take s.held list) b.0 in
      let f = blocks_facts s.block s.held 0 (take s.blocks lens) b.1 in
      let l : length (take s.held list) ≡ s.held = length-take-le s.held list w.2 in
      record {
        error = w.0;
        count = w.1;
        fits = w.2;
        empty = (λ z. omega (arith, sum_none (take s.held list) (omega arith)), λ z. omega (arith, count_least (take s.held list) e.1));
        sorted = e.0;
        each = e.1;
        summed = omega arith;
        size = w.3;
        places = w.4;
        blocks = f.0;
        all = omega arith;
      }

  pub rules_sound : Rules s list lens → sound s list lens ≡ true
  unfolding sound
  rules_sound r =
      rw (
        facts_words s (length list) (length lens) r.error r.count r.fits r.size r.places,
        facts_entries s.n 0 0 (take s.held list) r.sorted r.each (omega (arith, r.summed)),
      )
      (facts_blocks s.block s.held 0 (take s.blocks lens) r.blocks (omega (arith, r.all)))
