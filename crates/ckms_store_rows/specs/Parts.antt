-- The delta of a new entry, and what the two halves of a compression leave.
-- Assumes nothing: these are definitions.
use Rattle.std.specs.Prelude.{◌≡◌, ℕ, ◌-◌, cond, List, ◌++◌, eqb, length, replicate}
use Rattle.fraction.specs.declared.Fraction.{Fraction}
use Rattle.fraction.specs.Inv.{inv}
use Rattle.entries.specs.declared.Entry.{Entry}
use Rattle.entries.specs.Entry.{zero_entry}
use Rattle.ckms_theory.specs.Squash.{squashed, marks, kept}
use Rattle.ckms_theory.specs.Join.{joined}

-- delta is 0 at the front and at the end, else inv(r) - 1
abbrev pub delta_at : Fraction → ℕ → ℕ → ℕ → ℕ
delta_at error place held r = cond (eqb place 0) 0 (cond (eqb place held) 0 (inv error r - 1))

-- the two halves of a compression: what is left stands in front, and zeros in the places that became free
pub record SquashPost (error : Fraction) (list : List Entry) (lens : List ℕ) (after : ℕ) (list' : List Entry) (lens' : List ℕ) : Type 0 where
  pub count : after ≡ length (squashed error list)
  pub entries : list' ≡ squashed error list ++ replicate (length list - after) zero_entry
  pub lengths : lens' ≡ kept (marks error list) lens

pub record JoinPost (size : ℕ) (lens : List ℕ) (after : ℕ) (lens' : List ℕ) : Type 0 where
  pub count : after ≡ length (joined size lens)
  pub lengths : lens' ≡ joined size lens ++ replicate (length lens - after) 0
