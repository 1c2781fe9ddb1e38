-- The limits of a stream. The associated constants of `Stream` are these numbers.
-- Assumes nothing: these are definitions.
use Rattle.std.specs.Prelude.{ℕ, Bool, ◌&&◌, leb}
use Rattle.fraction.specs.Allowed.{denominators}

-- the most slots that may be lent
abbrev pub slots : ℕ
slots = 4096

-- the most observations
abbrev pub observations : ℕ
observations = 1000000000

-- the largest denominator: the one that allowed fractions have
abbrev pub denominator : ℕ
denominator = denominators

-- a lent list of this length is taken
abbrev pub slots_ok : ℕ → Bool
slots_ok length = leb 1 length && leb length slots
