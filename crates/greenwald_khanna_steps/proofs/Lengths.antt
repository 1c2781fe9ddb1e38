-- How many entries a step leaves.
-- Assumes nothing.
use mathlib.Core.Path.{◌≡◌, refl}
use Prim.Native.Nat.{ℕ, suc, ◌+◌, ◌≤◌, ◌%◌}
use mathlib.Core.List.{List, [], ◌∷◌}
use native.Mathlib.Omega.{arith}
use lib.Dec.{eqb}
use lib.ListN.{length}
use Rattle.entries.specs.declared.Entry.{Entry}
use Rattle.entries.specs.Entry.{entry, values}
use Rattle.entries.specs.Place.{place}
use Rattle.entries.proofs.Choose.{cond_cases}
use Rattle.entries.proofs.Layouts.{length_put}
use Rattle.fraction.specs.declared.Fraction.{Fraction}
use Rattle.fraction.specs.Products.{p_of, period}
use Rattle.greenwald_khanna_theory.specs.State.{State, grown, tidied, insert}
use Rattle.greenwald_khanna_theory.specs.Summary.{new_delta, put_in, step, merged, compress}
use Rattle.greenwald_khanna_theory.proofs.Merging.{step_cases}

step_length : (p : ℕ) (e : Entry) (es : List Entry) → length (step p e es) ≤ suc (length es)
unfolding step
step_length p e [] = omega arith
step_length p e (nx ∷ ns) = step_cases (λ (l : List Entry). length l ≤ suc (suc (length ns))) p e nx ns (λ h. omega arith) (omega arith)

merged_length : (p : ℕ) (es : List Entry) → length (merged p es) ≤ length es
unfolding merged
merged_length p [] = omega arith
merged_length p (e ∷ es) = omega (arith, step_length p e (merged p es), merged_length p es)

pub compress_length : (p : ℕ) (es : List Entry) → length (compress p es) ≤ length es
unfolding compress
compress_length p [] = omega arith
compress_length p (f ∷ es) = omega (arith, merged_length p es)

pub grown_length : (ε : Fraction) (s : State) (x : ℕ) → length (grown ε s x).entries ≡ suc (length s.entries)
unfolding grown put_in
grown_length ε s x =
    length_put (place x (values s.entries)) (entry x 1 (new_delta (p_of ε s.n) (place x (values s.entries)) (length s.entries)))
    s.entries

pub tidied_length : (ε : Fraction) (s : State) → length (tidied ε s).entries ≤ length s.entries
unfolding tidied
tidied_length ε s = compress_length (p_of ε s.n) s.entries

pub insert_length : (ε : Fraction) (s : State) (x : ℕ) → length (insert ε s x).entries ≤ suc (length s.entries)
unfolding insert
insert_length ε s x =
    cond_cases (λ (t : State). length t.entries ≤ suc (length s.entries)) (eqb ((s.n + 1) % period ε) 0)
    (λ _. omega (arith, tidied_length ε (grown ε s x), grown_length ε s x)) (λ _. omega (arith, grown_length ε s x))

pub insert_count : (ε : Fraction) (s : State) (x : ℕ) → (insert ε s x).n ≡ s.n + 1
unfolding insert tidied grown
insert_count ε s x =
    cond_cases (λ (t : State). t.n ≡ s.n + 1) (eqb ((s.n + 1) % period ε) 0) (λ _. refl) (λ _. refl)
