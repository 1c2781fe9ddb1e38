-- The work of an insert and of a compression on rows: what the inner functions did makes the state and the lent lists that the definitions name.
-- Assumes nothing.
use mathlib.Core.Path.{◌≡◌, refl, sym, ap, ◌∙◌}
use mathlib.Core.Bool.{true}
use mathlib.Core.List.{List, [], ◌∷◌, ◌++◌, append_assoc}
use Prim.Native.Nat.{ℕ, suc, ◌+◌, ◌-◌, ◌≤◌, ◌<◌}
use native.Mathlib.Omega.{arith}
use borrow.Author.Tests.{lt-ltb, le-ltb}
use lib.ListN.{length, get_or, take, drop, replicate, length-map, take-append-drop}
use lib.Seq.{length-take-le}
use Rattle.fraction.specs.declared.Fraction.{Fraction}
use Rattle.entries.specs.declared.Entry.{Entry}
use Rattle.entries.specs.Entry.{entry, zero_entry, values, entry_of, entries_of}
use Rattle.entries.specs.Lists.{put_at, layout}
use Rattle.entries.proofs.Layouts.{length_put, layout_front, layout_room, layout_full}
use Rattle.entries.proofs.Maps.{map_take}
use Rattle.entries.proofs.Parts.{below_le}
use Rattle.ckms_theory.specs.declared.Spot.{Spot}
use Rattle.ckms_theory.specs.Blocks.{total, block_of}
use Rattle.ckms_theory.specs.Seek.{NoneEmpty, InBlocks, Sought, Grown}
use Rattle.ckms_theory.specs.Pass.{Whole}
use Rattle.ckms_theory.specs.Squash.{squashed, marks, kept}
use Rattle.ckms_theory.specs.Join.{joined}
use Rattle.ckms_store_rows.specs.Parts.{delta_at, SquashPost, JoinPost}
use Rattle.ckms_store_steps.specs.declared.Store.{Store}
use Rattle.ckms_store_steps.specs.Held.{Held, held_in}
use Rattle.ckms_store_steps.specs.Limits.{observations}
use Rattle.ckms_store_steps.specs.Sound.{sound, EachFits, Rules}
use Rattle.ckms_store_steps.specs.Answers.{state_of}
use Rattle.ckms_store_work.specs.Changes.{place_of, new_delta, put, tidy, put_in, tidy_in}
use Rattle.ckms_store_work.specs.Steps.{Ready, Left, PutPost, TidyPost}
use Rattle.ckms_store_steps.proofs.Tests.{slots_facts, size_facts}
use Rattle.ckms_store_steps.proofs.Sounds.{sound_rules}
use Rattle.ckms_store_steps.proofs.Kept.{Kept, sound_kept, kept_sound, blocks_least}
use Rattle.ckms_store_work.proofs.Puts.{put_kept, block_inside, rank_small}
use Rattle.ckms_store_work.proofs.Tidies.{tidy_kept}

-- a state is its fields
store_eq : (a : Store) (e : Fraction) (n h b k : ℕ) → a.error ≡ e → a.n ≡ n → a.held ≡ h → a.block ≡ b → a.blocks ≡ k
    → ◌≡◌ {A = Store} a (record { error = e; n = n; held = h; block = b; blocks = k })
store_eq a e n h b k p q r s t = λ i. record { error = p i; n = q i; held = r i; block = s i; blocks = t i }

none_empty : (size : ℕ) (ls : List ℕ) → EachFits size ls → NoneEmpty ls
none_empty size [] f = tt
none_empty size (a ∷ ls) f = (f.0, none_empty size ls f.2)

block_last : (x : ℕ) (es : List Entry) (ls : List ℕ) → block_of x es ls ≤ length ls - 1
unfolding block_of
block_last x es [] = omega arith
block_last x es (a ∷ ls) = omega (arith, block_inside x es a ls)

length_kept : (ms ls : List ℕ) → length (kept ms ls) ≡ length ls
unfolding kept
length_kept ms [] = refl
length_kept ms (a ∷ ls) = ap suc (length_kept (drop a ms) ls)

-- compression of fewer than 3 entries, and of more
tidy_none : (error : Fraction) (size : ℕ) (h : Held) → length h.entries < 3 → tidy error size h ≡ h
unfolding tidy
tidy_none error size h l = rw (lt-ltb (length h.entries) 3 l)

tidy_many : (error : Fraction) (size : ℕ) (h : Held) → 3 ≤ length h.entries
    → tidy error size h ≡ record { entries = squashed error h.entries; blocks = joined size (kept (marks error h.entries) h.blocks) }
unfolding tidy
tidy_many error size h l = rw (le-ltb (length h.entries) 3 l)

-- an accepted insert holds one entry more
pub put_length : (s : Store) (list : List Entry) (lens : List ℕ) (x : ℕ) → s.held ≤ length list
    → length (put_in s list lens x).entries ≡ suc s.held
unfolding put
put_length s list lens x h =
    length_put (place_of x (held_in s list lens)) (entry x 1 (new_delta s.error x (held_in s list lens))) (take s.held list)
    ∙ ap suc (length-take-le s.held list h)

-- what is left in a part in use, and zeros behind it, in the lent list
part_laid : {A : Type 0} (z : A) (es list part : List A) (n most after : ℕ) → n ≡ most → after ≡ length es → part ≡ es ++ replicate (n - after) z
    → part ++ drop most list ≡ layout z es most list
part_laid z es list part n most after h k e = rw (e, h, k) (append_assoc es (replicate (most - length es) z) (drop most list))

-- what was found among the rows in use was found among the entries held
pub found : (x held : ℕ) (rows : List (List ℕ)) (ls : List ℕ) (spot : Spot) → Sought x (entries_of (take held rows)) ls spot → Sought x (take held (entries_of rows)) ls spot
found x held rows ls spot f = rw (map_take entry_of held rows) at f

module _ (s : Store) (list : List Entry) (lens : List ℕ) (r : Ready s list lens) where
  pub ruled : Rules s list lens
  ruled = sound_rules s list lens r.sound

  pub slots_are : (1 ≤ length list) × (length list ≤ 4096) × (length lens ≡ length list)
  slots_are = slots_facts (length list) (length lens) r.allowed

  pub held_long : length (take s.held list) ≡ s.held
  held_long = length-take-le s.held list ruled.fits

  pub blocks_long : length (take s.blocks lens) ≡ s.blocks
  blocks_long = length-take-le s.blocks lens ruled.places

  -- there are no more blocks than entries
  pub blocks_few : s.blocks ≤ s.held
  blocks_few = omega (arith, blocks_least s.block (take s.blocks lens) ruled.blocks, ruled.all, blocks_long)

  pub in_blocks : InBlocks (take s.held list) (take s.blocks lens)
  in_blocks = record {
    few = omega (arith, held_long, ruled.fits, slots_are);
    counted = omega (arith, ruled.summed, ruled.count);
    sorted = ruled.sorted;
    each = none_empty s.block (take s.blocks lens) ruled.blocks;
    all = ruled.all ∙ sym held_long;
  }

  -- a step that keeps the rules, and whose lists begin with what is held, leaves a sound state
  left : (n : ℕ) (h : Held) (most most_blocks : ℕ) (a : Store) (list' : List Entry) (lens' : List ℕ) → Kept s.block n h → n ≤ observations
      → a ≡ state_of s n h → list' ≡ layout zero_entry h.entries most list → lens' ≡ layout 0 h.blocks most_blocks lens
      → Left s n h most most_blocks list lens a list' lens'
  left n h most most_blocks a list' lens' k c p q t = record {
    state = p;
    entries = q;
    blocks = t;
    kept = rw (p, q, t)
        (kept_sound s n h (layout zero_entry h.entries most list) (layout 0 h.blocks most_blocks lens) k ruled.error c ruled.size
        (layout_room zero_entry h.entries most list) (layout_room 0 h.blocks most_blocks lens) (layout_front zero_entry h.entries most list)
        (layout_front 0 h.blocks most_blocks lens));
  }

  pub size_pos : 1 ≤ s.block
  size_pos = (size_facts s.block ruled.size).0

  -- one observation more, and a compression, laid out in the lent lists, are sound
  pub put_sound : (x : ℕ) → s.n < observations
      → sound (state_of s (suc s.n) (put_in s list lens x)) (layout zero_entry (put_in s list lens x).entries (suc s.held) list) (layout 0 (put_in s list lens x).blocks (length (put_in s list lens x).blocks) lens) ≡ true
  put_sound x l =
      (left (suc s.n) (put_in s list lens x) (suc s.held) (length (put_in s list lens x).blocks) _ _ _
      (put_kept s.error s.block s.n x (held_in s list lens) ruled.error size_pos l (sound_kept s list lens ruled)) l refl refl refl).kept

  pub tidy_sound : sound (state_of s s.n (tidy_in s list lens)) (layout zero_entry (tidy_in s list lens).entries s.held list) (layout 0 (tidy_in s list lens).blocks s.blocks lens) ≡ true
  tidy_sound =
      (left s.n (tidy_in s list lens) s.held s.blocks _ _ _ (tidy_kept s.error s.block s.n (held_in s list lens) (sound_kept s list lens ruled)) ruled.count refl refl refl).kept

  module _ (x : ℕ) (l : s.n < observations) (spot : Spot) (f : Sought x (take s.held list) (take s.blocks lens) spot) where
    pub place_inside : spot.place ≤ s.held
    place_inside = omega (arith, f.place, below_le (values (take s.held list)) x, length-map (take s.held list) (λ (e : Entry). e.v), held_long)

    pub rank_fits : spot.rank ≤ 1000004096
    rank_fits = omega (arith, f.rank, rank_small x (take s.held list) (take s.blocks lens), ruled.summed, held_long, ruled.fits, slots_are)

    pub block_there : spot.block ≤ s.blocks - 1
    block_there = omega (arith, f.found, block_last x (take s.held list) (take s.blocks lens), blocks_long)

    -- the entries and the lengths that the inner functions left
    pub put_left : (d : ℕ) (a : Store) (list' : List Entry) (lens' : List ℕ) → d ≡ delta_at s.error spot.place s.held spot.rank
        → list' ≡ put_at spot.place (entry x 1 d) (take s.held list) ++ drop (suc s.held) list → Grown s.block s.blocks spot.block lens a.blocks lens'
        → a.error ≡ s.error → a.n ≡ s.n + 1 → a.held ≡ s.held + 1 → a.block ≡ s.block
        → PutPost s list lens x a list' lens'
    unfolding put new_delta
    put_left d a list' lens' e p g a₁ a₂ a₃ a₄ =
        let h : Held = put_in s list lens x in
        let new : d ≡ new_delta s.error x (held_in s list lens) = e ∙ rw (f.place, f.rank, held_long) in
        let c : a.blocks ≡ length h.blocks = rw f.found at g.count in
        let long : length h.entries ≡ suc s.held = put_length s list lens x ruled.fits in
        left (suc s.n) h (suc s.held) (length h.blocks) a list' lens'
        (put_kept s.error s.block s.n x (held_in s list lens) ruled.error size_pos l (sound_kept s list lens ruled)) l
        (store_eq a s.error (suc s.n) (length h.entries) s.block (length h.blocks) a₁ (omega arith) (omega (arith, long)) a₄ c)
        (rw (f.place, new) at p ∙ layout_full zero_entry h.entries (suc s.held) list long)
        (rw (f.found, c) at g.list ∙ layout_full 0 h.blocks (length h.blocks) lens refl)

  module _ (h : 3 ≤ s.held) where
    -- what the two halves of a compression ask
    pub whole : Whole s.held (take s.blocks lens)
    whole = record {
      few = omega (arith, ruled.fits, slots_are);
      block = some (take s.blocks lens) ruled.all;
      first = first (take s.blocks lens) ruled.blocks ruled.all;
      all = ruled.all;
    }
      where
        some : (ls : List ℕ) → total ls ≡ s.held → 0 < length ls
        some [] e = absurd (omega arith)
        some (a ∷ ls) e = omega arith

        first : (ls : List ℕ) → EachFits s.block ls → total ls ≡ s.held → 1 ≤ get_or ls 0 0
        first [] f e = absurd (omega arith)
        first (a ∷ ls) f e = f.0

    -- the parts in use as the two halves of a compression left them
    pub tidy_left : (a : Store) (part : List Entry) (lens' lens'' : List ℕ) → SquashPost s.error (take s.held list) (take s.blocks lens) a.held part lens'
        → JoinPost s.block lens' a.blocks lens'' → a.error ≡ s.error → a.n ≡ s.n → a.block ≡ s.block
        → TidyPost s list lens a (part ++ drop s.held list) (lens'' ++ drop s.blocks lens)
    tidy_left a part lens' lens'' q j a₁ a₂ a₃ =
        let es : List Entry = squashed s.error (take s.held list) in
        let ls : List ℕ = kept (marks s.error (take s.held list)) (take s.blocks lens) in
        let k : length ls ≡ s.blocks = length_kept (marks s.error (take s.held list)) (take s.blocks lens) ∙ blocks_long in
        let i : JoinPost s.block ls a.blocks lens'' = rw q.lengths at j in
        let e : tidy_in s list lens ≡ record { entries = es; blocks = joined s.block ls } = tidy_many s.error s.block (held_in s list lens) (omega (arith, held_long)) in
        left s.n (tidy_in s list lens) s.held s.blocks a _ _ (tidy_kept s.error s.block s.n (held_in s list lens) (sound_kept s list lens ruled)) ruled.count
        (rw e (store_eq a s.error s.n (length es) s.block (length (joined s.block ls)) a₁ a₂ q.count a₃ i.count))
        (rw e (part_laid zero_entry es list part (length (take s.held list)) s.held a.held held_long q.count q.entries))
        (rw e (part_laid 0 (joined s.block ls) lens lens'' (length ls) s.blocks a.blocks k i.count i.lengths))

  pub tidy_few : s.held < 3 → TidyPost s list lens s list lens
  tidy_few h =
      let e : tidy_in s list lens ≡ held_in s list lens = tidy_none s.error s.block (held_in s list lens) (omega (arith, held_long)) in
      left s.n (tidy_in s list lens) s.held s.blocks s list lens (tidy_kept s.error s.block s.n (held_in s list lens) (sound_kept s list lens ruled)) ruled.count
      (rw e (store_eq s s.error s.n (length (take s.held list)) s.block (length (take s.blocks lens)) refl refl (sym held_long) refl (sym blocks_long)))
      (rw e (sym (take-append-drop s.held list) ∙ layout_full zero_entry (take s.held list) s.held list held_long))
      (rw e (sym (take-append-drop s.blocks lens) ∙ layout_full 0 (take s.blocks lens) s.blocks lens blocks_long))

-- the rows in use are lent, and are as many as are held
pub rows_used : (s : Store) (rows : List (List ℕ)) (lens : List ℕ) → Ready s (entries_of rows) lens → (s.held ≤ length rows) × (length (take s.held rows) ≡ s.held)
rows_used s rows lens r =
    let fits : s.held ≤ length rows = omega (arith, (ruled s (entries_of rows) lens r).fits, length-map rows entry_of) in
    (fits, length-take-le s.held rows fits)
