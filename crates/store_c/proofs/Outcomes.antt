-- Any two outcomes of a call coincide: both are the core's, in numbers.
-- Assumes nothing.
use mathlib.Core.Path.{sym, ap, ◌∙◌}
use Rattle.store_words.specs.Stores as store
use Rattle.store_c.specs.Laws.{StoreOpensOneWay, StoreInsertsOneWay, StoreCompressesOneWay}

pub store_opens : StoreOpensOneWay
unfolding StoreOpensOneWay
store_opens f size list lens r s list' list'' lens' lens'' p q = (
  p.flat ∙ ap store.flat_opened (p.post.answered ∙ sym q.post.answered) ∙ sym q.flat,
  p.post.entries ∙ sym q.post.entries,
  p.post.blocks ∙ sym q.post.blocks,
)

pub store_inserts : StoreInsertsOneWay
unfolding StoreInsertsOneWay
store_inserts w list lens v r s list' list'' lens' lens'' p q = (
  p.flat ∙ ap (store.flat_inserted w) (p.post.answered ∙ sym q.post.answered) ∙ sym q.flat,
  p.post.entries ∙ sym q.post.entries,
  p.post.blocks ∙ sym q.post.blocks,
)

pub store_compresses : StoreCompressesOneWay
unfolding StoreCompressesOneWay
store_compresses w list lens r s list' list'' lens' lens'' p q = (
  p.flat ∙ ap (store.flat_compressed w) (p.post.answered ∙ sym q.post.answered) ∙ sym q.flat,
  p.post.entries ∙ sym q.post.entries,
  p.post.blocks ∙ sym q.post.blocks,
)
