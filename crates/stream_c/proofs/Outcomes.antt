-- Any two outcomes of a call coincide: both are the core's, in numbers.
-- Assumes nothing.
use mathlib.Core.Path.{sym, ap, ◌∙◌}
use Rattle.stream_words.specs.Streams as stream
use Rattle.stream_c.specs.Laws.{StreamOpensOneWay, StreamInsertsOneWay, StreamAnswersOneWay}

pub stream_opens : StreamOpensOneWay
unfolding StreamOpensOneWay
stream_opens ε list r s list' list'' p q =
    (p.flat ∙ ap stream.flat_opened (p.post.answered ∙ sym q.post.answered) ∙ sym q.flat, p.post.left ∙ sym q.post.left)

pub stream_inserts : StreamInsertsOneWay
unfolding StreamInsertsOneWay
stream_inserts w list v r s list' list'' p q =
    (p.flat ∙ ap (stream.flat_inserted w) (p.post.answered ∙ sym q.post.answered) ∙ sym q.flat, p.post.left ∙ sym q.post.left)

pub stream_answers : StreamAnswersOneWay
unfolding StreamAnswersOneWay
stream_answers w list φ r s p q = p.flat ∙ ap stream.flat_answer (p.post.answered ∙ sym q.post.answered) ∙ sym q.flat
