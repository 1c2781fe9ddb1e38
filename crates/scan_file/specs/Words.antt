-- Words of four bytes, the lowest byte first.
-- Assumes nothing: these are definitions.
use Rattle.std.specs.Prelude.{ℕ, zero, suc, ◌+◌, ◌*◌, ◌/◌, ◌%◌, ◌<◌, List, [], ◌∷◌, get_or}

-- the bytes of a list of words
unfoldable pub bytes_of : List ℕ → List ℕ
bytes_of [] = []
bytes_of (w ∷ ws) = w % 256 ∷ w / 256 % 256 ∷ w / 65536 % 256 ∷ w / 16777216 % 256 ∷ bytes_of ws

-- word i of a list of bytes; a byte behind the end counts as 0
unfoldable pub word_at : List ℕ → ℕ → ℕ
word_at bytes i =
    get_or bytes (4 * i) 0 + 256 * get_or bytes (4 * i + 1) 0 + 65536 * get_or bytes (4 * i + 2) 0 + 16777216 * get_or bytes (4 * i + 3) 0

-- f i, f (i + 1), ..: n of them
unfoldable pub each : {A : Type 0} → (ℕ → A) → ℕ → ℕ → List A
each f i zero = []
each f i (suc n) = f i ∷ each f (suc i) n

-- every number of the list is below m
abbrev pub Below : ℕ → List ℕ → Type 0
Below m [] = Unit {0}
Below m (x ∷ xs) = (x < m) × Below m xs
