-- How a list looks once its elements from a place on have moved up by one and a new one stands there, and once some of its places are cleared.
-- Assumes nothing.
use mathlib.Core.Path.{◌≡◌, refl, sym, ap, ◌∙◌}
use mathlib.Core.List.{List, [], ◌∷◌, ◌++◌, append_assoc}
use Prim.Native.Nat.{ℕ, zero, suc, ◌+◌, ◌-◌, ◌≤◌, ◌<◌}
use native.Mathlib.Numerals.{add-one}
use native.Mathlib.Omega.{arith}
use lib.ListN.{length, get_or, set, take, drop, replicate, length-drop, length-replicate}
use lib.Seq.{length-take-le, take-suc, take-take, set_at, paste}
use borrow.Rule.Slice.PartMut.{put_mid}
use Rattle.std.proofs.lemmas.List.{drop-take}
use Rattle.std.proofs.lemmas.List.Edits.{paste_all}
use Rattle.std.proofs.lemmas.Slice.{put_mid-paste}
use Rattle.entries.specs.Lists.{put_at, cleared}

-- the elements from pos up to held copied one place up, and the new one stored over the first of them
pub room_made : {A : Type 0} (xs : List A) (held pos : ℕ) (x : A) → pos ≤ held → held < length xs
    → set (paste xs (pos + 1) (drop pos xs) (held - pos)) pos x ≡ put_at pos x (take held xs) ++ drop (suc held) xs
room_made {A = A} xs held pos x b h =
    let n : pos + (held - pos) ≡ held = omega arith in
    let m : pos + 1 + (held - pos) ≡ suc held = omega arith in
    let moved : take (held - pos) (drop pos xs) ≡ drop pos (take held xs) =
    sym (drop-take pos (held - pos) xs) ∙ ap (λ (k : ℕ). drop pos (take k xs)) n in
    let rest : List A = drop pos (take held xs) ++ drop (suc held) xs in
    let cut : paste xs (pos + 1) (drop pos xs) (held - pos) ≡ take pos xs ++ get_or xs pos x ∷ rest =
    rw (moved, m, add-one pos, take-suc xs pos x (omega arith))
    (append_assoc (take pos xs ++ get_or xs pos x ∷ []) (drop pos (take held xs)) (drop (suc held) xs) ∙ append_assoc (take pos xs) (get_or xs pos x ∷ []) rest) in
    rw (cut, set_at (take pos xs) (get_or xs pos x) rest x pos (length-take-le pos xs (omega arith)))
    (rw (take-take pos held xs b) (sym (append_assoc (take pos xs) (x ∷ drop pos (take held xs)) (drop (suc held) xs))))

take_all : {A : Type 0} (i : ℕ) (xs : List A) → length xs ≤ i → take i xs ≡ xs
take_all zero [] h = refl
take_all zero (x ∷ xs) h = absurd (omega arith)
take_all (suc i) [] h = refl
take_all (suc i) (x ∷ xs) h = ap (◌∷◌ x) (take_all i xs (omega arith))

-- a part whose every place was set to z, put back
pub part_cleared : {A : Type 0} (z : A) (xs part : List A) (from to i : ℕ) → from ≤ to → to ≤ length xs
    → length part ≡ length (take (to - from) (drop from xs)) → length (take (to - from) (drop from xs)) ≤ i → take i part ≡ replicate i z
    → put_mid from (to - from) xs part ≡ cleared z from to xs
part_cleared {A = A} z xs part from to i b h l m e =
    let long : length part ≡ to - from = omega (arith, l, length-take-le (to - from) (drop from xs) (omega (arith, length-drop from xs)), length-drop from xs) in
    let set_all : part ≡ replicate i z = sym (take_all i part (omega arith)) ∙ e in
    let count : i ≡ to - from = omega (arith, ap length set_all, length-replicate i z, long) in
    let n : from + (to - from) ≡ to = omega arith in
    put_mid-paste from (to - from) xs part (replicate (to - from) z) (to - from) (set_all ∙ ap (λ (k : ℕ). replicate k z) count) refl
    (sym (length-replicate (to - from) z))
    ∙ paste_all xs from (replicate (to - from) z) (to - from) (sym (length-replicate (to - from) z))
    ∙ ap (λ (k : ℕ). take from xs ++ (replicate (to - from) z ++ drop k xs)) n
