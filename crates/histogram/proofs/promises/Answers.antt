-- `histogram::promises` meets its contract: each promise is a theorem.
-- Assumes nothing.
use mathlib.Core.Path.{sym, ◌∙◌}
use Rattle.histogram_rows.specs.Laws.{BinsAreAPart}
use Rattle.histogram_rows.proofs.Binning.{bin_is_first}
use Rattle.histogram_rows.proofs.Splitting.{below_and_above, between_is_difference}
use Rattle.histogram_rows.proofs.Choosing.{between_part}
use Rattle.histogram_steps.proofs.Sounds.{sound_means, sound_holds}
use Rattle.histogram.specs.Laws.{SoundAgrees, BelowAndAbove, PartAddsUp, OpensOneWay, InsertsOneWay}
use Rattle.histogram.proofs.Filling.{filled_tells}
use Rattle.histogram.proofs.Examples.{readings}
use Rattle.histogram.proofs.promises.Goals as goal

pub returns : goal.returns
unfolding SoundAgrees BelowAndAbove BinsAreAPart PartAddsUp OpensOneWay InsertsOneWay
returns c = record {
  sound_agrees = λ h bs cs. (sound_means h bs cs, sound_holds h bs cs);
  bin_is_first = bin_is_first;
  below_and_above = λ h bs cs b e s. below_and_above bs cs b e ∙ s.adds_up;
  between_is_difference = between_is_difference;
  bins_are_a_part = between_part;
  part_adds_up = λ h bs cs l u f. rw f;
  opens_one_way = λ bs cs r s cs' cs'' p q. (p.answer ∙ sym q.answer, p.counts ∙ sym q.counts);
  inserts_one_way = λ h bs cs v r s cs' cs'' p q. (p.answer ∙ sym q.answer, p.counts ∙ sym q.counts);
  filled_tells = filled_tells;
  readings = readings;
}
