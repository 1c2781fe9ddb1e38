-- Lines put one behind the other. Assumes nothing.
use mathlib.Core.Path.{◌≡◌, refl, sym, ap, ◌∙◌}
use mathlib.Core.List.{List, [], ◌∷◌, ◌++◌, map, append_assoc, append-nil}
use Prim.Native.Nat.{ℕ, ◌+◌}
use native.Mathlib.Omega.{arith}
use Rattle.std.proofs.lemmas.List.{map-append}
use Rattle.fraction.specs.declared.Fraction.{Fraction}
use Rattle.entries.specs.declared.Entry.{Entry}
use Rattle.scan_file.specs.Words.{each}
use Rattle.scan_file.proofs.Wording.{each_add}
use Rattle.scan_put.specs.Put.{Put}
use Rattle.scan_put.proofs.Texts.{put_both, put_none}
use Rattle.scan_text.specs.declared.Line.{Line}
use Rattle.scan_text.specs.declared.Line.TheVariants.{Taken, Held}
use Rattle.scan_text.specs.Lines.{text_of}
use Rattle.scan_insert.specs.declared.Ran.{Ran}
use Rattle.scan_insert.specs.Inserts.{end_of}
use Rattle.scan_write.specs.ScanLines.{fraction_line, refused_line, scan_lines, texts}

-- no line, one line, and lines behind others
pub none_put : (out : List ℕ) (at : ℕ) → Put (texts []) at out at out
unfolding texts
none_put out at = put_none out at

pub one_put : (line : Line) {at r : ℕ} {out after : List ℕ} → Put (text_of line) at out r after → Put (texts (line ∷ [])) at out r after
unfolding texts
one_put line p = rw (append-nil (text_of line)) p

texts_append : (ls ms : List Line) → texts (ls ++ ms) ≡ texts ls ++ texts ms
unfolding texts
texts_append [] ms = refl
texts_append (l ∷ ls) ms = ap (λ (t : List ℕ). text_of l ++ t) (texts_append ls ms) ∙ sym (append_assoc (text_of l) (texts ls) (texts ms))

pub more_put : (ls ms : List Line) {at a r : ℕ} {start out after : List ℕ} → Put (texts ls) at start a out → Put (texts ms) a out r after
    → Put (texts (ls ++ ms)) at start r after
more_put ls ms p q = rw (texts_append ls ms) (put_both p q)

-- the line of one fraction more
pub fraction_put : (f : Fraction → Line) (g : ℕ → Fraction) (i : ℕ) {from at r : ℕ} {start out after : List ℕ}
    → Put (texts (map f (each g 0 i))) from start at out → Put (text_of (f (g i))) at out r after
    → Put (texts (map f (each g 0 (i + 1)))) from start r after
unfolding each
fraction_put f g i p q =
    let z : 0 + i ≡ i = omega arith in
    rw (each_add g 0 i 1, map-append f (each g 0 i) (g (0 + i) ∷ []), z) (more_put (map f (each g 0 i)) (f (g i) ∷ []) p (one_put (f (g i)) q))

-- the lines of a scan
pub scan_written : (ran : Ran) (list : List Entry) (fs : List Fraction) {a b d r : ℕ} {start out next last after : List ℕ}
    → Put (text_of (Taken ran.stream.n)) 0 start a out → Put (text_of (Held ran.stream.held)) a out b next → Put (texts (refused_line ran.refused)) b next d last
    → Put (texts (map (fraction_line ran.stream list) fs)) d last r after → Put (texts (scan_lines (end_of ran list) fs)) 0 start r after
scan_written ran list fs p q s t =
    let taken = Taken ran.stream.n in
    let held = Held ran.stream.held in
    let refused = refused_line ran.refused in
    let asked = map (fraction_line ran.stream list) fs in
    more_put (taken ∷ []) (held ∷ (refused ++ asked)) (one_put taken p)
    (more_put (held ∷ []) (refused ++ asked) (one_put held q) (more_put refused asked s t))
