-- A text put at a place of a list of bytes.
-- Assumes nothing: these are definitions.
use Rattle.std.specs.Prelude.{◌≡◌, ℕ, ◌+◌, List, ◌++◌, length, take, drop}

-- the text stands behind the first `at` bytes, r is the place behind it, and the rest is as it was
pub record Put (text : List ℕ) (at : ℕ) (before : List ℕ) (r : ℕ) (after : List ℕ) : Type 0 where
  pub place : r ≡ at + length text
  pub bytes : take r after ≡ take at before ++ text
  pub rest : drop r after ≡ drop r before
