-- How the backward pass, the move down and the zeroing make `CompressPost`.
-- Assumes nothing.
use mathlib.Core.Path.{◌≡◌, refl, sym, ap, ◌∙◌}
use Prim.Native.Nat.{ℕ, ◌+◌, ◌-◌, ◌<◌}
use mathlib.Core.List.{List, [], ◌∷◌, ◌++◌, map, map-append, append-nil}
use native.Mathlib.Omega.{arith}
use lib.ListN.{length, take, drop, replicate, length-drop, length-map}
use lib.Seq.{take-suc, take-paste, take_all, drop-cons, length-paste}
use Rattle.std.specs.List.{copy_within}
use Rattle.std.proofs.lemmas.List.{drop_all}
use Rattle.entries.specs.declared.Entry.{Entry}
use Rattle.entries.specs.Entry.{zero_entry}
use Rattle.entries.specs.Lists.{cleared}
use Rattle.entries.proofs.Maps.{map_take, map_drop, map_cleared}
use Rattle.greenwald_khanna_theory.specs.Summary.{merged, compress}
use Rattle.greenwald_khanna_rows.specs.Compress.{at, MergedFrom, CompressPost}

-- moving down, said of the entries
map_moved : {A B : Type 0} (f : A → B) (w held : ℕ) (xs : List A) → map f (copy_within xs w held 1) ≡ copy_within (map f xs) w held 1
map_moved f w held xs = simp (map-append, map_take, map_drop)

-- after the backward pass from es to fs and the move down: what is held, and the zeroing behind it
module _ (p : ℕ) (es fs : List Entry) (w : ℕ) (h : 1 < length es) (z : MergedFrom p es 1 w fs) where
  whole : compress p es ≡ at es 0 ∷ drop w fs
  unfolding compress
  whole = ap (compress p) (drop-cons es 0 zero_entry (omega arith)) ∙ ap (λ (l : List Entry). at es 0 ∷ l) (sym z.done)

  counted : 1 + (length es - w) ≡ length (compress p es)
  counted = rw (whole, length-drop w fs, z.same_length) (omega arith)

  head : take 1 fs ≡ at es 0 ∷ []
  head = z.front ∙ take-suc es 0 zero_entry (omega arith)

  left : take (1 + (length es - w)) (copy_within fs w (length es) 1) ≡ compress p es
  left =
      let t = take-paste fs 1 (drop w fs) (length es - w) (omega (arith, z.same_length)) (omega (arith, length-drop w fs, z.same_length)) in
      rw (t, whole, head, take_all (length es - w) (drop w fs) (omega (arith, length-drop w fs, z.same_length)))

  laid : cleared zero_entry (1 + (length es - w)) (length es) (copy_within fs w (length es) 1)
      ≡ compress p es ++ replicate (length es - length (compress p es)) zero_entry
  laid =
      let long = length-paste fs 1 (drop w fs) (length es - w) (omega (arith, z.order, z.high, z.same_length)) (omega (arith, length-drop w fs, z.same_length)) in
      rw (left, drop_all (length es) (copy_within fs w (length es) 1) (omega (arith, long, z.same_length)), ← counted, append-nil)

-- the three steps, over a list where f tells the entry in a place and `free` is what a freed place holds
pub all : {A : Type 0} (f : A → Entry) (p w : ℕ) (xs ys us vs : List A) (free : A) → 1 < length xs → MergedFrom p (map f xs) 1 w (map f ys)
    → us ≡ copy_within ys w (length ys) 1 → vs ≡ cleared free (1 + (length xs - w)) (length xs) us → f free ≡ zero_entry
    → CompressPost p (map f xs) (1 + (length xs - w)) (map f vs)
all f p w xs ys us vs free h z e d q =
    let n = length-map xs f in
    let m : length ys ≡ length (map f xs) = sym (length-map ys f) ∙ z.same_length in
    let c : 1 < length (map f xs) = omega (arith, n) in
    record {
      count = rw (← n) (counted p (map f xs) (map f ys) w c z);
      list =
          ap (map f) d
          ∙ map_cleared f free (1 + (length xs - w)) (length xs) us
          ∙ rw (q, e, map_moved f w (length ys) ys, m, ← n) (laid p (map f xs) (map f ys) w c z);
    }

-- fewer than two entries: nothing to do
pub short : (p : ℕ) (es : List Entry) → length es < 2 → CompressPost p es (length es) es
unfolding compress merged
short p [] h = record { count = refl; list = refl }
short p (x ∷ []) h = record { count = refl; list = refl }
short p (x ∷ (y ∷ es)) h = absurd (omega arith)
