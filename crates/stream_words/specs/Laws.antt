-- The statements that are promised of the stream's words beside each conversion's own contract; their proofs are in proofs/.
-- Assumes nothing: these are statements.
use Rattle.std.specs.Prelude.{◌≡◌}
use Rattle.greenwald_khanna_steps.specs.declared.Stream.{Stream}
use Rattle.stream_words.specs.Streams as stream

-- the words of a state are read as that state again
unfoldable pub StreamBack : Type 0
StreamBack = (st : Stream) → stream.stream_of (stream.words_of st) ≡ st
