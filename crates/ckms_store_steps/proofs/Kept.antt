-- What a sound store holds, apart from where it stands: the rules that a step has to keep, and how they make a state sound.
-- Assumes nothing.
use mathlib.Core.Path.{◌≡◌, sym, ◌∙◌}
use mathlib.Core.Bool.{true}
use mathlib.Core.List.{List, [], ◌∷◌}
use Prim.Native.Nat.{ℕ, ◌≤◌}
use native.Mathlib.Omega.{arith}
use lib.ListN.{length, take}
use lib.Seq.{length-take-le}
use Rattle.fraction.specs.Allowed.{is_error}
use Rattle.entries.specs.declared.Entry.{Entry}
use Rattle.entries.specs.Entry.{values, sum_g}
use Rattle.entries.specs.Ranks.{Rising}
use Rattle.ckms_theory.specs.Blocks.{total}
use Rattle.ckms_store_steps.specs.declared.Store.{Store}
use Rattle.ckms_store_steps.specs.Held.{Held, held_in}
use Rattle.ckms_store_steps.specs.Limits.{observations, size_ok}
use Rattle.ckms_store_steps.specs.Sound.{sound, EachCounts, EachFits, Rules}
use Rattle.ckms_store_steps.specs.Answers.{state_of}
use Rattle.ckms_store_steps.proofs.Sounds.{count_least, sum_none, rules_sound}

pub record Kept (size n : ℕ) (h : Held) : Type 0 where
  pub sorted : Rising 0 (values h.entries)
  pub each : EachCounts h.entries
  pub summed : sum_g h.entries ≡ n
  pub blocks : EachFits size h.blocks
  pub all : total h.blocks ≡ length h.entries

pub sound_kept : (s : Store) (list : List Entry) (lens : List ℕ) → Rules s list lens → Kept s.block s.n (held_in s list lens)
sound_kept s list lens r = record {
  sorted = r.sorted;
  each = r.each;
  summed = r.summed;
  blocks = r.blocks;
  all = r.all ∙ sym (length-take-le s.held list r.fits);
}

-- each block has an entry
pub blocks_least : (size : ℕ) (ls : List ℕ) → EachFits size ls → length ls ≤ total ls
blocks_least size [] f = omega arith
blocks_least size (a ∷ ls) f = omega (arith, blocks_least size ls f.2)

-- lent lists that begin with what is held make the state sound
pub kept_sound : (s : Store) (n : ℕ) (h : Held) (list : List Entry) (lens : List ℕ) → Kept s.block n h → is_error s.error ≡ true → n ≤ observations → size_ok s.block ≡ true
    → length h.entries ≤ length list → length h.blocks ≤ length lens → take (length h.entries) list ≡ h.entries → take (length h.blocks) lens ≡ h.blocks
    → sound (state_of s n h) list lens ≡ true
kept_sound s n h list lens k e c z f p a b = rules_sound (state_of s n h) list lens record {
  error = e;
  count = c;
  fits = f;
  empty = (λ q. omega (arith, k.summed, sum_none h.entries q), λ q. omega (arith, k.summed, count_least h.entries k.each));
  sorted = rw a k.sorted;
  each = rw a k.each;
  summed = rw a k.summed;
  size = z;
  places = p;
  blocks = rw b k.blocks;
  all = rw b k.all;
}
