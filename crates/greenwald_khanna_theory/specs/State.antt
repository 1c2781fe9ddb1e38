-- A stream as its n observations and the summary of them: inserting, and the quantile.
-- Assumes nothing: these are definitions.
use Rattle.std.specs.Prelude.{ℕ, ◌+◌, ◌%◌, cond, List, [], eqb}
use Rattle.std.proofs.Math.Option.{Option}
use Rattle.fraction.specs.declared.Fraction.{Fraction}
use Rattle.fraction.specs.Products.{floor_mul, p_of, e_of, period}
use Rattle.entries.specs.declared.Entry.{Entry}
use Rattle.greenwald_khanna_theory.specs.Summary.{put_in, compress}
use Rattle.greenwald_khanna_theory.specs.Walk.{look_up}

pub record State : Type 0 where
  pub n : ℕ
  pub entries : List Entry

-- nothing observed yet
abbrev pub fresh : State
fresh = record { n = 0; entries = [] }

-- the observation x put in, with p taken before it is counted
unfoldable pub grown : Fraction → State → ℕ → State
grown ε s x = record { n = s.n + 1; entries = put_in (p_of ε s.n) x s.entries }

-- compressed with its own n
unfoldable pub tidied : Fraction → State → State
tidied ε s = record { n = s.n; entries = compress (p_of ε s.n) s.entries }

-- one observation more; compressed if the period divides the new n
unfoldable pub insert : Fraction → State → ℕ → State
insert ε s x = cond (eqb ((s.n + 1) % period ε) 0) (tidied ε (grown ε s x)) (grown ε s x)

-- the rank r that a quantile asks for
abbrev pub rank : Fraction → ℕ → ℕ
rank φ n = floor_mul φ n

-- the answer at the rank r
unfoldable pub answer_at : Fraction → State → ℕ → Option ℕ
answer_at ε s r = look_up (r + e_of ε s.n) s.entries

unfoldable pub quantile : Fraction → State → Fraction → Option ℕ
quantile ε s φ = answer_at ε s (rank φ s.n)
