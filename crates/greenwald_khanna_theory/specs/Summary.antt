-- The summary of a stream: where a new observation goes, and how entries are merged.
-- Assumes nothing: these are definitions.
use Rattle.std.specs.Prelude.{ℕ, ◌+◌, Bool, cond, ◌&&◌, ◌||◌, List, [], ◌∷◌, ltb, leb, eqb, length}
use Rattle.fraction.specs.Band.{band}
use Rattle.entries.specs.declared.Entry.{Entry}
use Rattle.entries.specs.Entry.{entry, values}
use Rattle.entries.specs.Lists.{put_at}
use Rattle.entries.specs.Place.{place}

-- the delta of a new entry at place k of a list of `held`: 0 at the front and at the end, else p
unfoldable pub new_delta : ℕ → ℕ → ℕ → ℕ
new_delta p k held = cond (eqb k 0 || eqb k held) 0 p

-- the summary with an entry for x at its place
unfoldable pub put_in : ℕ → ℕ → List Entry → List Entry
put_in p x es = put_at (place x (values es)) (entry x 1 (new_delta p (place x (values es)) (length es))) es

-- whether e may be deleted, its g going to the entry nx behind it
unfoldable pub mergeable : ℕ → Entry → Entry → Bool
mergeable p e nx = ltb (e.g + nx.g + nx.delta) p && leb (band p e.delta) (band p nx.delta)

-- e before entries that are compressed already
unfoldable pub step : ℕ → Entry → List Entry → List Entry
step p e [] = e ∷ []
step p e (nx ∷ ns) = cond (mergeable p e nx) (entry nx.v (e.g + nx.g) nx.delta ∷ ns) (e ∷ nx ∷ ns)

-- from the last entry to the first
unfoldable pub merged : ℕ → List Entry → List Entry
merged p [] = []
merged p (e ∷ es) = step p e (merged p es)

-- the first entry stays; the last has nothing behind it
unfoldable pub compress : ℕ → List Entry → List Entry
compress p [] = []
compress p (f ∷ es) = f ∷ merged p es
