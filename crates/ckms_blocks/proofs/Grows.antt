-- A block that takes one entry more, in the lent list of lengths. Assumes nothing.
use mathlib.Core.Path.{◌≡◌, refl, sym, ap, ◌∙◌}
use mathlib.Core.Bool.{cond}
use mathlib.Core.List.{List, [], ◌∷◌, ◌++◌}
use Prim.Native.Nat.{ℕ, zero, suc, ◌+◌, ◌≤◌, ◌<◌}
use native.Mathlib.Omega.{arith}
use native.Mathlib.Numerals.{add-one}
use lib.Dec.{ltb}
use lib.ListN.{length, get_or, set, take, drop, length-set, take-append-drop}
use lib.Seq.{length-take-le, get_or-take, set-append_left}
use borrow.Author.Tests.{lt-ltb, le-ltb}
use Rattle.entries.specs.Lists.{put_at}
use Rattle.entries.proofs.Layouts.{length_put}
use Rattle.ckms_theory.specs.Blocks.{grown}
use Rattle.ckms_theory.specs.Seek.{Grown}

-- where there is a block
pub grown_some : (size b : ℕ) (ls : List ℕ) → 0 < length ls
    → grown size b ls ≡ cond (ltb (get_or ls b 0) size) (set ls b (suc (get_or ls b 0))) (put_at (suc b) 1 ls)
unfolding grown
grown_some size b [] h = absurd (omega arith)
grown_some size b (a ∷ ls) h = refl

-- the first block of an empty store
pub grow_first : (size blocks b : ℕ) (lens : List ℕ) → blocks < 1 → blocks < length lens → Grown size blocks b lens 1 (set lens 0 1)
unfolding grown
grow_first size (suc blocks) b lens h l = absurd (omega arith)
grow_first size zero b [] h l = absurd (omega arith)
grow_first size zero b (a ∷ lens) h l = record { count = refl; list = refl }

module _ (size blocks b : ℕ) (lens : List ℕ) (l : blocks < length lens) (h : b < blocks) where
  front : length (take blocks lens) ≡ blocks
  front = length-take-le blocks lens (omega arith)

  pub grow_one : get_or lens b 0 < size → Grown size blocks b lens blocks (set lens b (get_or lens b 0 + 1))
  grow_one g =
      let e : grown size b (take blocks lens) ≡ set (take blocks lens) b (suc (get_or lens b 0)) =
      grown_some size b (take blocks lens) (omega (arith, front)) ∙ rw (get_or-take blocks lens b 0 h, lt-ltb (get_or lens b 0) size g) in
      record {
        count = sym (ap length e ∙ length-set (take blocks lens) b (suc (get_or lens b 0)) ∙ front);
        list =
            rw (e, add-one (get_or lens b 0))
            (ap (λ (t : List ℕ). set t b (suc (get_or lens b 0))) (sym (take-append-drop blocks lens))
            ∙ set-append_left (take blocks lens) (drop blocks lens) b (suc (get_or lens b 0)) (omega (arith, front)));
      }

  pub grow_split : size ≤ get_or lens b 0 → (left : List ℕ) → left ≡ put_at (b + 1) 1 (take blocks lens) ++ drop (suc blocks) lens → Grown size blocks b lens (blocks + 1) left
  grow_split g left p =
      let e : grown size b (take blocks lens) ≡ put_at (suc b) 1 (take blocks lens) =
      grown_some size b (take blocks lens) (omega (arith, front)) ∙ rw (get_or-take blocks lens b 0 h, le-ltb (get_or lens b 0) size g) in
      record {
        count = omega (arith, ap length e, length_put (suc b) 1 (take blocks lens), front);
        list = rw (e, add-one blocks) (rw (add-one b) at p);
      }
