-- Any two outcomes of a call coincide: both are the core's, in numbers.
-- Assumes nothing.
use mathlib.Core.Path.{sym, ap, ◌∙◌}
use Rattle.histogram_words.specs.Histograms as histogram
use Rattle.histogram_c.specs.Laws.{HistogramOpensOneWay, HistogramInsertsOneWay, BinsOneWay}

pub histogram_opens : HistogramOpensOneWay
unfolding HistogramOpensOneWay
histogram_opens bs cs r s cs' cs'' p q =
    (p.flat ∙ ap histogram.flat_opened (p.post.answer ∙ sym q.post.answer) ∙ sym q.flat, p.post.counts ∙ sym q.post.counts)

pub histogram_inserts : HistogramInsertsOneWay
unfolding HistogramInsertsOneWay
histogram_inserts w bs cs v r s cs' cs'' p q =
    (p.flat ∙ ap (histogram.flat_inserted w) (p.post.answer ∙ sym q.post.answer) ∙ sym q.flat, p.post.counts ∙ sym q.post.counts)

pub bins_agree : BinsOneWay
unfolding BinsOneWay
bins_agree h bs cs l u r s p q =
    let refused = p.refused ∙ sym q.refused in
    let begins = p.begins ∙ sym q.begins in
    let long = p.long ∙ sym q.long in
    λ i. record { refusal = refused i; start = begins i; length = long i }
