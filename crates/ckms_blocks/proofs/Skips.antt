-- The search for a block, block by block: what is found behind the blocks that were skipped is found in the whole.
-- Assumes nothing.
use mathlib.Core.Path.{◌≡◌, refl, ap, ◌∙◌}
use mathlib.Core.List.{List, [], ◌∷◌}
use Prim.Native.Nat.{ℕ, zero, suc, ◌+◌, ◌-◌, ◌≤◌, ◌<◌}
use native.Mathlib.Omega.{arith}
use native.Mathlib.Numerals.{add-one}
use borrow.Author.Tests.{lt-ltb, le-ltb}
use lib.ListN.{length, get_or, take, drop, length-drop, length-map, drop_of_length-le}
use lib.Seq.{drop-cons, drop-drop, get_or-drop}
use Rattle.entries.specs.declared.Entry.{Entry}
use Rattle.entries.specs.Entry.{entry_of, entries_of, values, sum_g}
use Rattle.entries.specs.Ranks.{Rising, below}
use Rattle.entries.proofs.Maps.{map_take, map_drop, value_at}
use Rattle.entries.proofs.Parts.{below_le, below_cut, sum_cut, sorted_drop, entry_at, part_entries}
use Rattle.entries.proofs.Places.{all_smaller, none_smaller}
use Rattle.ckms_blocks.specs.declared.Start.{Start}
use Rattle.ckms_theory.specs.Blocks.{total, last_of, block_of, rank_of}
use Rattle.ckms_theory.specs.Seek.{NoneEmpty, InBlocks, Sought}
use Rattle.ckms_blocks.specs.Skip.{Skipped}

-- a block whose last value is smaller than x has only smaller ones
all_below : (es : List Entry) (a x : ℕ) → 1 ≤ a → a ≤ length es → Rising 0 (values es) → last_of a es < x → below (values (take a es)) x ≡ a
all_below es zero x p b r h = absurd (omega arith)
all_below es (suc k) x p b r h =
    let q : suc k - 1 ≡ k = omega arith in
    rw (map_take (λ (e : Entry). e.v) (suc k) es, ← add-one k) (all_smaller 0 (values es) k x (omega (arith, length-map es (λ (e : Entry). e.v))) r (rw q at h))

-- behind a block whose last value is not smaller, none is
none_behind : (es : List Entry) (a x : ℕ) → 1 ≤ a → a ≤ length es → Rising 0 (values es) → x ≤ last_of a es → below (values (drop a es)) x ≡ 0
none_behind es zero x p b r h = absurd (omega arith)
none_behind es (suc k) x p b r h =
    let q : suc k - 1 ≡ k = omega arith in
    let l : k < length (values es) = omega (arith, length-map es (λ (e : Entry). e.v)) in
    let s : below (drop k (values es)) x ≡ 0 = none_smaller 0 (values es) k x l r (rw q at h) in
    rw (map_drop (λ (e : Entry). e.v) (suc k) es) (omega (arith, rw (drop-cons (values es) k 0 l) at s))

each_drop : (ls : List ℕ) (b : ℕ) → b < length ls → NoneEmpty ls → 1 ≤ get_or ls b 0
each_drop [] b h e = absurd (omega arith)
each_drop (a ∷ ls) zero h e = e.0
each_drop (a ∷ ls) (suc b) h e = each_drop ls b (omega arith) e.1

-- the blocks before `block` were skipped
pub record Skipping (x : ℕ) (es : List Entry) (ls : List ℕ) (block start sum : ℕ) : Type 0 where
  pub inside : block < length ls
  pub rest : start + total (drop block ls) ≡ length es
  pub found : block + block_of x (drop start es) (drop block ls) ≡ block_of x es ls
  pub place : start + below (values (drop start es)) x ≡ below (values es) x
  pub rank : sum + rank_of x (drop start es) (drop block ls) ≡ rank_of x es ls
  pub low : sum + sum_g (drop (start + get_or ls block 0) es) ≤ sum_g es

module _ (x : ℕ) (es : List Entry) (ls : List ℕ) (w : InBlocks es ls) where
  pub skip_none : 0 < length ls → Skipping x es ls 0 0 0
  skip_none h = record {
    inside = h;
    rest = omega (arith, w.all);
    found = omega arith;
    place = omega arith;
    rank = omega arith;
    low = let q : 0 + get_or ls 0 0 ≡ get_or ls 0 0 = omega arith in rw q (omega (arith, sum_cut es (get_or ls 0 0)));
  }

  module _ (block start sum : ℕ) (z : Skipping x es ls block start sum) where
    -- the block's length, and how far it reaches
    pub length_pos : 1 ≤ get_or ls block 0
    length_pos = each_drop ls block z.inside w.each

    tail_all : total (drop block ls) ≡ get_or ls block 0 + total (drop (suc block) ls)
    tail_all = rw (drop-cons ls block 0 z.inside)

    pub block_fits : start + get_or ls block 0 ≤ length es
    block_fits = omega (arith, tail_all, z.rest)

    part-fits : get_or ls block 0 ≤ length (drop start es)
    part-fits = omega (arith, block_fits, length-drop start es)

    -- its last value stands at the place before its end
    pub last_at : last_of (get_or ls block 0) (drop start es) ≡ get_or (values es) (start + get_or ls block 0 - 1) 0
    last_at =
        let q : start + (get_or ls block 0 - 1) ≡ start + get_or ls block 0 - 1 = omega (arith, length_pos) in
        rw (map_drop (λ (e : Entry). e.v) start es) (get_or-drop start (values es) (get_or ls block 0 - 1) 0 ∙ ap (λ (k : ℕ). get_or (values es) k 0) q)

    -- the search ends here: none behind this block is smaller, or there is none behind it
    module _ (e : block_of x (drop start es) (drop block ls) ≡ 0) (r : rank_of x (drop start es) (drop block ls) ≡ below (values (take (get_or ls block 0) (drop start es))) x)
        (n : below (values (drop (get_or ls block 0) (drop start es))) x ≡ 0) where
      stop : Skipped x es ls record { block = block; start = start; sum = sum }
      stop = record {
        inside = z.inside;
        fits = block_fits;
        found = omega (arith, z.found);
        place = omega (arith, z.place, below_cut (drop start es) (get_or ls block 0) x);
        rank = omega (arith, z.rank);
        low = omega (arith, z.low, w.counted);
      }

    pub stop_here : suc block < length ls → x ≤ get_or (values es) (start + get_or ls block 0 - 1) 0 → Skipped x es ls record { block = block; start = start; sum = sum }
    unfolding block_of rank_of
    stop_here h g =
        let c : x ≤ last_of (get_or ls block 0) (drop start es) = rw last_at g in
        stop (rw (drop-cons ls block 0 z.inside, drop-cons ls (suc block) 0 h, le-ltb (last_of (get_or ls block 0) (drop start es)) x c))
        (rw (drop-cons ls block 0 z.inside, drop-cons ls (suc block) 0 h, le-ltb (last_of (get_or ls block 0) (drop start es)) x c))
        (none_behind (drop start es) (get_or ls block 0) x length_pos part-fits (sorted_drop es start w.sorted) c)

    pub stop_last : length ls ≤ suc block → Skipped x es ls record { block = block; start = start; sum = sum }
    unfolding block_of rank_of
    stop_last h =
        let d : drop (suc block) ls ≡ [] = drop_of_length-le ls {i = suc block} h in
        let t : total (drop (suc block) ls) ≡ 0 = ap total d in
        stop (rw (drop-cons ls block 0 z.inside, d)) (rw (drop-cons ls block 0 z.inside, d))
        (rw (drop_of_length-le (drop start es) {i = get_or ls block 0} (omega (arith, length-drop start es, tail_all, z.rest))))

    -- the next block
    module _ (h : suc block < length ls) (g : get_or (values es) (start + get_or ls block 0 - 1) 0 < x) where
      pub go_on : Skipping x es ls (suc block) (start + get_or ls block 0) (sum + sum_g (take (get_or ls (suc block) 0) (drop (start + get_or ls block 0) es)))
      unfolding block_of rank_of
      go_on =
          let a : ℕ = get_or ls block 0 in
          let b : ℕ = get_or ls (suc block) 0 in
          let c : last_of a (drop start es) < x = rw last_at g in
          let d : drop a (drop start es) ≡ drop (start + a) es = drop-drop a start es in
          let k : drop b (drop (start + a) es) ≡ drop (start + a + b) es = drop-drop b (start + a) es in
          let p : block_of x (drop start es) (drop block ls) ≡ suc (block_of x (drop (start + a) es) (drop (suc block) ls)) =
          rw (drop-cons ls block 0 z.inside, drop-cons ls (suc block) 0 h, lt-ltb (last_of a (drop start es)) x c, d) in
          let q : rank_of x (drop start es) (drop block ls) ≡ sum_g (take b (drop (start + a) es)) + rank_of x (drop (start + a) es) (drop (suc block) ls) =
          rw (drop-cons ls block 0 z.inside, drop-cons ls (suc block) 0 h, lt-ltb (last_of a (drop start es)) x c, d) in
          record {
            inside = h;
            rest = omega (arith, tail_all, z.rest);
            found = omega (arith, z.found, p);
            place = omega (arith, z.place, below_cut (drop start es) a x, all_below (drop start es) a x length_pos part-fits (sorted_drop es start w.sorted) c, ap (λ (l : List Entry). below (values l) x) d);
            rank = omega (arith, z.rank, q);
            low = omega (arith, z.low, sum_cut (drop (start + a) es) b, ap sum_g k);
          }

-- the same on rows, as the code has it
pub record Searching (x : ℕ) (rows : List (List ℕ)) (ls : List ℕ) (at : Start) : Type 0 where
  pub inside : at.block < length ls
  pub pos : 1 ≤ get_or ls at.block 0
  pub fits : at.start + get_or ls at.block 0 ≤ length rows
  pub low : at.sum ≤ 1000000000
  pub so_far : Skipping x (entries_of rows) ls at.block at.start at.sum

module _ (x : ℕ) (rows : List (List ℕ)) (ls : List ℕ) (w : InBlocks (entries_of rows) ls) where
  searching : (block start sum : ℕ) → Skipping x (entries_of rows) ls block start sum
      → Searching x rows ls record { block = block; start = start; sum = sum }
  searching block start sum z = record {
    inside = z.inside;
    pos = length_pos x (entries_of rows) ls w block start sum z;
    fits = omega (arith, block_fits x (entries_of rows) ls w block start sum z, length-map rows entry_of);
    low = omega (arith, z.low, w.counted);
    so_far = z;
  }

  pub search_none : 0 < length ls → Searching x rows ls record { block = 0; start = 0; sum = 0 }
  search_none h = searching 0 0 0 (skip_none x (entries_of rows) ls w h)

  module _ (next : ℕ) (at : Start) (e : next ≡ at.block + 1) (s : Searching x rows ls at) where
    -- how far the block goes
    abbrev end : ℕ
    end = at.start + get_or ls (next - 1) 0

    here : get_or ls (next - 1) 0 ≡ get_or ls at.block 0
    here = let q : next - 1 ≡ at.block = omega arith in ap (λ (k : ℕ). get_or ls k 0) q

    pub search_here : next < length ls → x ≤ (entry_at rows (end - 1)).v → Skipped x (entries_of rows) ls at
    search_here h g =
        stop_here x (entries_of rows) ls w at.block at.start at.sum s.so_far (omega arith) (rw (← here) (omega (arith, value_at rows (end - 1))))

    -- the next block's g-sum is counted, and the search goes on behind this block
    pub search_on : next < length ls → (entry_at rows (end - 1)).v < x → (n : ℕ)
        → n ≡ sum_g (entries_of (take (end + get_or ls next 0 - end) (drop end rows))) → Searching x rows ls record { block = next; start = end; sum = at.sum + n }
    search_on h g n f =
        let b : ℕ = get_or ls next 0 in
        let k : end + b - end ≡ b = omega arith in
        let m : next ≡ suc at.block = omega arith in
        let t : n ≡ sum_g (take b (drop end (entries_of rows))) = rw (k, part_entries rows end b) at f in
        rw (t, here, m)
        (searching (suc at.block) (at.start + get_or ls at.block 0) (at.sum + sum_g (take (get_or ls (suc at.block) 0) (drop (at.start + get_or ls at.block 0) (entries_of rows))))
        (go_on x (entries_of rows) ls w at.block at.start at.sum s.so_far (omega arith) (rw (← here) (omega (arith, value_at rows (end - 1))))))

    pub search_last : length ls ≤ next → Skipped x (entries_of rows) ls at
    search_last h = stop_last x (entries_of rows) ls w at.block at.start at.sum s.so_far (omega arith)

-- an empty store has no block
pub seek_none : (x : ℕ) (es : List Entry) (ls : List ℕ) → InBlocks es ls → length ls < 1 → Sought x es ls record { block = 0; place = 0; rank = 0 }
unfolding block_of rank_of
seek_none x [] [] w h = record { found = refl; place = refl; rank = refl }
seek_none x (e ∷ es) [] w h = absurd (omega (arith, w.all))
seek_none x es (a ∷ ls) w h = absurd (omega arith)

-- in the block that was found the smaller ones are counted: n. The numbers stay small
pub seek_found : (x : ℕ) (rows : List (List ℕ)) (ls : List ℕ) (s : Start) (n : ℕ) → InBlocks (entries_of rows) ls → Skipped x (entries_of rows) ls s
    → n ≡ below (values (entries_of (take (s.start + get_or ls s.block 0 - s.start) (drop s.start rows)))) x
    → Sought x (entries_of rows) ls record { block = s.block; place = s.start + n; rank = s.sum + n }
    × (s.start + n ≤ 4096) × (s.sum + n ≤ 1000004096)
seek_found x rows ls s n w z e =
    let q : s.start + get_or ls s.block 0 - s.start ≡ get_or ls s.block 0 = omega arith in
    let f : n ≡ below (values (take (get_or ls s.block 0) (drop s.start (entries_of rows)))) x =
    rw (q, part_entries rows s.start (get_or ls s.block 0)) at e in
    let m : s.start + n ≤ 4096 =
    omega (arith, z.place, below_le (values (entries_of rows)) x, length-map (entries_of rows) (λ (e : Entry). e.v), w.few) in (
      record { found = z.found; place = rw f z.place; rank = rw f z.rank },
      m,
      omega (arith, z.low),
    )
