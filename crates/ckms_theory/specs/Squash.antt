-- Compress, first half: entries merge from the front on, and each block keeps what stays of it.
-- Assumes nothing: these are definitions.
use Rattle.std.specs.Prelude.{ℕ, suc, ◌+◌, Bool, cond, List, [], ◌∷◌, leb, take, drop}
use Rattle.fraction.specs.declared.Fraction.{Fraction}
use Rattle.fraction.specs.Inv.{inv}
use Rattle.entries.specs.declared.Entry.{Entry}
use Rattle.entries.specs.Entry.{entry}
use Rattle.ckms_theory.specs.Blocks.{total}

-- r at compress, as the Rust counts it: 1 at the step that looks at the second entry, place 1, and 1 more per step
abbrev pub step_rank : ℕ → ℕ
step_rank i = i

-- current and next merge when g + g' + delta' ≤ inv(r)
abbrev pub merges : Fraction → ℕ → Entry → Entry → Bool
merges error r c u = leb (c.g + u.g + u.delta) (inv error r)

-- v and delta of next, g added
abbrev pub merged : Entry → Entry → Entry
merged c u = entry u.v (c.g + u.g) u.delta

-- what is left of c, the current entry, and of those behind it, which stand from place i on
unfoldable pub squash : Fraction → ℕ → Entry → List Entry → List Entry
squash error i c [] = c ∷ []
squash error i c (u ∷ us) =
    cond (merges error (step_rank i) c u) (squash error (suc i) (merged c u) us) (c ∷ squash error (suc i) u us)

-- the same walk, with 1 for each entry behind c that stays and 0 for each that is removed
unfoldable pub stays : Fraction → ℕ → Entry → List Entry → List ℕ
stays error i c [] = []
stays error i c (u ∷ us) =
    cond (merges error (step_rank i) c u) (0 ∷ stays error (suc i) (merged c u) us) (1 ∷ stays error (suc i) u us)

-- the whole list: its first entry is the current one, and stays
unfoldable pub squashed : Fraction → List Entry → List Entry
squashed error [] = []
squashed error (c ∷ us) = squash error 1 c us

unfoldable pub marks : Fraction → List Entry → List ℕ
marks error [] = []
marks error (c ∷ us) = 1 ∷ stays error 1 c us

-- how many entries each block keeps
unfoldable pub kept : List ℕ → List ℕ → List ℕ
kept ms [] = []
kept ms (a ∷ ls) = total (take a ms) ∷ kept (drop a ms) ls
