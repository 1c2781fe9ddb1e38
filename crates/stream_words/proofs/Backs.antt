-- The words of a stream are read as that stream again.
-- Assumes nothing.
use mathlib.Core.Path.{refl}
use Rattle.stream_words.specs.Laws.{StreamBack}

pub stream_back : StreamBack
unfolding StreamBack
stream_back st = refl
