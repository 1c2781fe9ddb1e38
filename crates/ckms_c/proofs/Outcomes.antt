-- Any two outcomes of a call coincide: both are the core's, in numbers.
-- Assumes nothing.
use mathlib.Core.Path.{sym, ap, ◌∙◌}
use Rattle.ckms_answer_words.specs.CkmsAnswers as ckms
use Rattle.ckms_c.specs.Laws.{CkmsOpensOneWay, CkmsInsertsOneWay}

pub ckms_opens : CkmsOpensOneWay
unfolding CkmsOpensOneWay
ckms_opens f list lens r s list' list'' lens' lens'' p q = (
  p.flat ∙ ap ckms.flat_opened (p.post.answered ∙ sym q.post.answered) ∙ sym q.flat,
  p.post.entries ∙ sym q.post.entries,
  p.post.blocks ∙ sym q.post.blocks,
)

pub ckms_inserts : CkmsInsertsOneWay
unfolding CkmsInsertsOneWay
ckms_inserts w list lens v r s list' list'' lens' lens'' p q = (
  p.flat ∙ ap (ckms.flat_inserted w) (p.post.answered ∙ sym q.post.answered) ∙ sym q.flat,
  p.post.entries ∙ sym q.post.entries,
  p.post.blocks ∙ sym q.post.blocks,
)
