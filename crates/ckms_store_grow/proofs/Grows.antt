-- An insert: one observation more and, when it is time, a compression; and that both are one step. Assumes nothing.
use mathlib.Core.Path.{◌≡◌, refl, ◌∙◌}
use Prim.Native.Nat.{ℕ, suc, ◌≤◌}
use native.Mathlib.Omega.{arith}
use mathlib.Core.List.{List}
use lib.ListN.{length, take}
use borrow.Author.Tests.{eq-eqb}
use Rattle.entries.specs.declared.Entry.{Entry}
use Rattle.entries.specs.Entry.{zero_entry}
use Rattle.entries.specs.Lists.{layout}
use Rattle.entries.proofs.Layouts.{layout_front, layout_again}
use Rattle.ckms_store_steps.specs.declared.Store.{Store}
use Rattle.ckms_store_steps.specs.Held.{Held, held_in}
use Rattle.ckms_store_steps.specs.Answers.{state_of}
use Rattle.ckms_store_work.specs.Changes.{tidy, put_in}
use Rattle.ckms_store_work.specs.Steps.{Left, PutPost, TidyPost}
use Rattle.ckms_store_work.proofs.Works.{put_length}
use Rattle.ckms_store_grow.specs.Grow.{GrowPost}

-- a compression behind an insert
module _ (s p r : Store) (list list₁ list₂ : List Entry) (lens lens₁ lens₂ : List ℕ) (x : ℕ) (fit : s.held ≤ length list) where
  abbrev h : Held
  h = put_in s list lens x

  pub then_tidy : PutPost s list lens x p list₁ lens₁ → TidyPost p list₁ lens₁ r list₂ lens₂
      → Left s (suc s.n) (tidy s.error s.block h) (suc s.held) (length h.blocks) list lens r list₂ lens₂
  then_tidy a b = record {
    state = b.state ∙ (λ i. state_of (a.state i) (a.state i).n (tidy (a.state i).error (a.state i).block (same i)));
    entries =
        b.entries ∙ (λ i. layout zero_entry (tidy (a.state i).error (a.state i).block (same i)).entries (a.state i).held (a.entries i))
        ∙ layout_again zero_entry h.entries (suc s.held) list (omega (arith, long)) (tidy s.error s.block h).entries
        (length h.entries) long;
    blocks =
        b.blocks ∙ (λ i. layout 0 (tidy (a.state i).error (a.state i).block (same i)).blocks (a.state i).blocks (a.blocks i))
        ∙ layout_again 0 h.blocks (length h.blocks) lens (omega arith) (tidy s.error s.block h).blocks (length h.blocks) refl;
    kept = b.kept;
  }
    where
      long : length h.entries ≡ suc s.held
      long = put_length s list lens x fit

      es : take p.held list₁ ≡ h.entries
      es = (λ i. take (a.state i).held (a.entries i)) ∙ layout_front zero_entry h.entries (suc s.held) list

      ls : take p.blocks lens₁ ≡ h.blocks
      ls = (λ i. take (a.state i).blocks (a.blocks i)) ∙ layout_front 0 h.blocks (length h.blocks) lens

      same : held_in p list₁ lens₁ ≡ h
      same = λ i. record { entries = es i; blocks = ls i }

  -- by the counter
  pub grown_tidy : (inserts : ℕ) → inserts ≡ 0 → PutPost s list lens x p list₁ lens₁ → TidyPost p list₁ lens₁ r list₂ lens₂ → GrowPost s inserts list lens x r list₂ lens₂
  grown_tidy inserts z a b = rw (eq-eqb inserts 0 z) (then_tidy a b)
