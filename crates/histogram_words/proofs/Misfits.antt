-- Words that fit no histogram are refused as DAMAGED, after SLOTS: the state that they make is never sound.
-- Assumes nothing.
use mathlib.Core.Path.{◌≡◌, refl, ap, ◌∙◌}
use mathlib.Core.Bool.{Bool, true, false, cond, ◌&&◌}
use Rattle.std.proofs.Common.{Result, Ok, Err}
use Rattle.refusal.specs.declared.Refusal.{Refusal}
use Rattle.refusal.specs.declared.Refusal.TheVariants.{Slots, Damaged}
use Rattle.histogram_steps.specs.declared.Histogram.{Histogram}
use Rattle.histogram_steps.specs.Standing.{standing, fits}
use Rattle.histogram_steps.specs.Bounds.{allowed}
use Rattle.histogram_words.specs.Histograms as histogram
use Rattle.histogram_words.specs.Laws.{HistogramMisfits}

-- the count is past the limit, whatever the bounds
past : (b f : Bool)
    → ◌≡◌ {A = Result (Unit {0}) Refusal} (cond f (cond (b && false) (Ok tt) (Err Damaged)) (Err Slots))
    (cond f (Err Damaged) (Err Slots))
past true f = refl
past false f = refl

pub histogram_misfits : HistogramMisfits
unfolding HistogramMisfits
histogram_misfits w bs cs t =
    let e : histogram.histogram_of w ≡ histogram.misfit = rw t in ap (λ (h : Histogram). standing h bs cs) e ∙ past (allowed bs) (fits bs cs)
