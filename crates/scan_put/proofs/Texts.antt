-- Texts put one behind the other. Assumes nothing.
use mathlib.Core.Path.{◌≡◌, refl, sym, ap, ◌∙◌}
use mathlib.Core.List.{List, [], ◌++◌, append_assoc, append-nil}
use Prim.Native.Nat.{ℕ, ◌+◌}
use native.Mathlib.Omega.{arith}
use lib.ListN.{length, take, drop, length-append, length-take, take-append-drop}
use lib.Seq.{drop-drop}
use Rattle.io.specs.Counts.{IsPrefixLen}
use Rattle.scan_put.specs.Put.{Put}

pub put_both : {s t : List ℕ} {at a b : ℕ} {before mid after : List ℕ} → Put s at before a mid → Put t a mid b after
    → Put (s ++ t) at before b after
put_both {s} {t} {at} {a} {b} {before} {mid} p q = record {
  place = omega (arith, length-append s t);
  bytes = q.bytes ∙ ap (λ (l : List ℕ). l ++ t) p.bytes ∙ append_assoc (take at before) s t;
  rest =
      let e : b ≡ a + length t = q.place in
      let later : (l : List ℕ) → drop b l ≡ drop (length t) (drop a l) = λ l. ap (λ (n : ℕ). drop n l) e ∙ sym (drop-drop (length t) a l) in
      q.rest ∙ later mid ∙ ap (drop (length t)) p.rest ∙ sym (later before);
}

pub put_none : (out : List ℕ) (at : ℕ) → Put [] at out at out
put_none out at = record { place = omega arith; bytes = sym (append-nil (take at out)); rest = refl }

-- a text at the start lies within the list
pub put_counts : {text out after : List ℕ} {r : ℕ} → Put text 0 out r after → IsPrefixLen r after
put_counts {text} {out} {after} {r} p = let e = ap length p.bytes in (omega (arith, length-take r after), omega arith)

-- a text put leaves one place and one list
pub put_one : {text : List ℕ} {at : ℕ} {before : List ℕ} (r s : ℕ) (l m : List ℕ) → Put text at before r l → Put text at before s m
    → (r ≡ s) × (l ≡ m)
put_one {before = before} r s l m p q =
    let e : r ≡ s = omega (arith, p.place, q.place) in
    let front : take r l ≡ take r m = p.bytes ∙ sym q.bytes ∙ ap (λ (n : ℕ). take n m) (sym e) in
    let back : drop r l ≡ drop r m = p.rest ∙ ap (λ (n : ℕ). drop n before) e ∙ sym q.rest ∙ ap (λ (n : ℕ). drop n m) (sym e) in
    (e, sym (take-append-drop r l) ∙ ap (λ (x : List ℕ). x ++ drop r l) front ∙ ap (λ (x : List ℕ). take r m ++ x) back ∙ take-append-drop r m)
