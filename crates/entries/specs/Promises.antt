-- What is promised of sorting, of ranks and of rows, each statement under its name; the contract of `promises` states them all.
-- Assumes nothing: these are definitions.
use Rattle.std.specs.Prelude.{◌≡◌, ◌↔◌, ℕ, ◌≤◌, ◌<◌, List, [], ◌∷◌, length}
use Rattle.entries.specs.declared.Entry.{Entry}
use Rattle.entries.specs.Entry.{rows_of, entries_of}
use Rattle.entries.specs.Place.{place}
use Rattle.entries.specs.Ranks.{Rising, sort, StandsAt, below, upto, Member, Sorts}

-- each row has three words, as the type of a lent list says
abbrev pub Threes : List (List ℕ) → Type 0
Threes [] = Unit {0}
Threes (row ∷ rows) = (length row ≡ 3) × Threes rows

-- `sort` sorts
unfoldable pub SortSorts : Type 0
SortSorts = (X : List ℕ) → Sorts X (sort X)

-- ranks by counting: v stands at the ranks above `below X v`, up to `upto X v`
unfoldable pub RanksByCount : Type 0
RanksByCount = (X : List ℕ) (v k : ℕ) → StandsAt X k v ↔ ((below X v < k) × (k ≤ upto X v))

-- what stands at a rank is one of the list
unfoldable pub StandsMember : Type 0
StandsMember = (X : List ℕ) (v k : ℕ) → StandsAt X k v → Member X v

-- in a sorted list the first greater value stands behind all that are at most x
unfoldable pub PlaceCounts : Type 0
PlaceCounts = (x : ℕ) (vs : List ℕ) → Rising 0 vs → place x vs ≡ upto vs x

-- the entries of rows of three words say every word, and rows made of entries give them back
unfoldable pub SameWords : Type 0
SameWords = (xs ys : List (List ℕ)) → Threes xs → Threes ys → entries_of xs ≡ entries_of ys → xs ≡ ys

unfoldable pub EntriesBack : Type 0
EntriesBack = (es : List Entry) → entries_of (rows_of es) ≡ es

pub record Promises : Type 0 where
  pub sort_sorts : SortSorts
  pub ranks_by_count : RanksByCount
  pub stands_member : StandsMember
  pub place_counts : PlaceCounts
  pub same_words : SameWords
  pub entries_back : EntriesBack
