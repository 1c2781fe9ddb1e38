-- The Rust's loop is the right fold: `sweep p (held - 2) es` is `compress p es`.
-- Assumes nothing.
use mathlib.Core.Path.{◌≡◌, refl, ap, ◌∙◌}
use Prim.Native.Nat.{ℕ, zero, suc, ◌-◌, ◌<◌}
use mathlib.Core.List.{List, [], ◌∷◌, ◌++◌}
use native.Mathlib.Omega.{arith}
use lib.ListN.{length, get_or, take, drop, get_or-append}
use lib.Seq.{take-append-le, drop_at, length-take-le, take-take, get_or-take, drop-cons}
use Rattle.entries.specs.declared.Entry.{Entry}
use Rattle.entries.specs.Entry.{zero_entry}
use Rattle.greenwald_khanna_theory.specs.Summary.{step, merged, compress}
use Rattle.greenwald_khanna_theory.specs.Sweep.{try_at, sweep}

-- the list when the loop has tried every i from `at` on
abbrev pub halfway : ℕ → ℕ → List Entry → List Entry
halfway p at es = take at es ++ merged p (drop at es)

pub try_halfway : (p i : ℕ) (es : List Entry) → i < length es → try_at p i (halfway p (suc i) es) ≡ halfway p i es
unfolding try_at merged
try_halfway p i es h =
    let len : length (take (suc i) es) ≡ suc i = length-take-le (suc i) es h in
    let rest : List Entry = merged p (drop (suc i) es) in
    let front : take i (take (suc i) es ++ rest) ≡ take i es =
    take-append-le i (take (suc i) es) rest (omega arith) ∙ take-take i (suc i) es (omega arith) in
    let mid : get_or (take (suc i) es ++ rest) i zero_entry ≡ get_or es i zero_entry =
    get_or-append (take (suc i) es) rest zero_entry i (omega arith) ∙ get_or-take (suc i) es i zero_entry (omega arith) in
    let back : drop (suc i) (take (suc i) es ++ rest) ≡ rest = drop_at (take (suc i) es) rest (suc i) len in
    rw (front, mid, back) (rw (drop-cons es i zero_entry h))

sweep_halfway : (p k : ℕ) (es : List Entry) → k < length es → sweep p k (halfway p (suc k) es) ≡ halfway p 1 es
unfolding sweep
sweep_halfway p zero es h = refl
sweep_halfway p (suc k) es h = rw (try_halfway p (suc k) es h) (sweep_halfway p k es (omega arith))

one_left : (p k : ℕ) (es : List Entry) → suc k ≡ length es → halfway p k es ≡ es
unfolding merged step
one_left p k [] h = absurd (omega arith)
one_left p zero (e ∷ []) h = refl
one_left p zero (e ∷ f ∷ es) h = absurd (omega arith)
one_left p (suc k) (e ∷ es) h = ap (λ (l : List Entry). e ∷ l) (one_left p k es (omega arith))

pub sweep_compress : (p : ℕ) (es : List Entry) → sweep p (length es - 2) es ≡ compress p es
unfolding compress sweep merged
sweep_compress p [] = refl
sweep_compress p (e ∷ []) = refl
sweep_compress p (e ∷ f ∷ es) =
    let k : length (e ∷ f ∷ es) - 2 ≡ length es = omega arith in
    let whole : halfway p (suc (length es)) (e ∷ f ∷ es) ≡ e ∷ f ∷ es = one_left p (suc (length es)) (e ∷ f ∷ es) refl in
    rw k (rw whole at (sweep_halfway p (length es) (e ∷ f ∷ es) (omega arith)))
