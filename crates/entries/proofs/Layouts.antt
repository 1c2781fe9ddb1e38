-- Lent lists: an element put in, places zeroed, and the list after a call: its length, its front, what stands behind, and a second call over it.
-- Assumes nothing.
use mathlib.Core.Path.{◌≡◌, refl, sym, ap, ◌∙◌}
use Prim.Native.Nat.{ℕ, suc, ◌-◌, ◌≤◌}
use mathlib.Core.List.{List, [], ◌∷◌, ◌++◌, append_assoc, append-nil, map-append}
use native.Mathlib.Omega.{arith}
use lib.ListN.{length, take, drop, replicate, length-append, length-take, length-drop, length-replicate}
use lib.Seq.{drop-length, take_at, drop_at}
use Rattle.entries.specs.Entry.{entry, entry_of, entries_of}
use Rattle.entries.specs.Lists.{put_at, layout, cleared}
use Rattle.entries.proofs.Maps.{map_take, map_drop, map_put_at}

pub length_put : {A : Type 0} (k : ℕ) (e : A) (es : List A) → length (put_at k e es) ≡ suc (length es)
length_put k e es = omega (arith, length-append (take k es) (e ∷ drop k es), length-take k es, length-drop k es)

-- a row put in among the rows, as an entry among their entries
pub put_rows : (k held v g d : ℕ) (rows rows' : List (List ℕ)) → rows' ≡ put_at k (v ∷ g ∷ d ∷ []) (take held rows) ++ drop (suc held) rows
    → entries_of rows' ≡ put_at k (entry v g d) (take held (entries_of rows)) ++ drop (suc held) (entries_of rows)
put_rows k held v g d rows rows' e =
    ap entries_of e ∙ map-append entry_of (put_at k (v ∷ g ∷ d ∷ []) (take held rows)) (drop (suc held) rows)
    ∙ rw (map_put_at entry_of k (v ∷ g ∷ d ∷ []) (take held rows), map_take entry_of held rows, map_drop entry_of (suc held) rows)

module _ {A : Type 0} (z : A) where
  -- every place zeroed
  pub cleared_all : (list : List A) → cleared z 0 (length list) list ≡ replicate (length list) z
  cleared_all list =
      let q : length list - 0 ≡ length list = omega arith in
      rw (q, drop-length list) (append-nil (replicate (length list) z))

  module _ (es : List A) (most : ℕ) (list : List A) where
    -- the held part stands in front
    pub layout_front : take (length es) (layout z es most list) ≡ es
    layout_front = take_at es (replicate (most - length es) z ++ drop most list) (length es) refl

    -- and there is room for it
    pub layout_room : length es ≤ length (layout z es most list)
    layout_room = omega (arith, length-append es (replicate (most - length es) z ++ drop most list))

    -- nothing was freed
    pub layout_full : length es ≡ most → es ++ drop most list ≡ layout z es most list
    layout_full e = let q : most - length es ≡ 0 = omega arith in rw q

    module _ (h : length es ≤ most) where
      -- what stood behind the most that was held stands there still
      pub layout_behind : drop most (layout z es most list) ≡ drop most list
      layout_behind =
          let front : length (es ++ replicate (most - length es) z) ≡ most =
          omega (arith, length-append es (replicate (most - length es) z), length-replicate (most - length es) z) in
          ap (drop most) (sym (append_assoc es (replicate (most - length es) z) (drop most list)))
          ∙ drop_at (es ++ replicate (most - length es) z) (drop most list) most front

      pub layout_length : most ≤ length list → length (layout z es most list) ≡ length list
      layout_length k =
          omega (
            arith,
            length-append es (replicate (most - length es) z ++ drop most list),
            length-append (replicate (most - length es) z) (drop most list),
            length-replicate (most - length es) z,
            length-drop most list,
          )

      -- a second call, over the list of the first, leaves what it would leave over the list before
      pub layout_again : (us : List A) (k : ℕ) → k ≡ most → layout z us k (layout z es most list) ≡ layout z us most list
      layout_again us k e = rw (e, layout_behind)
