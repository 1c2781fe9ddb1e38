-- The statements that are promised of the histogram's definitions, beside those of bounds and counts alone; their proofs are in proofs/.
-- Assumes nothing: these are statements.
use Rattle.std.specs.Prelude.{◌≡◌, ℕ, suc, ◌+◌, ◌≤◌, ◌↔◌, true, List, length, Result, Ok}
use Rattle.refusal.specs.declared.Refusal.{Refusal}
use Rattle.entries.specs.Total.{total}
use Rattle.histogram_rows.specs.declared.Bound.{Bound}
use Rattle.histogram_rows.specs.Bins.{total_below, total_above}
use Rattle.histogram_steps.specs.declared.Histogram.{Histogram}
use Rattle.histogram_steps.specs.Bounds.{allowed}
use Rattle.histogram_steps.specs.State.{observations}
use Rattle.histogram_steps.specs.Sound.{Sound, sound}
use Rattle.histogram_steps.specs.Standing.{standing}
use Rattle.histogram_told.specs.Answers.{between_answer}
use Rattle.histogram.specs.Answers.{bins_answer}
use Rattle.histogram_steps.specs.Opening.{OpenPost}
use Rattle.histogram.specs.Posts.{InsertPost}
use Rattle.histogram.specs.Runs.{opened, filled, Words, Tells}

-- the test that the calls make is the rules
unfoldable pub SoundAgrees : Type 0
SoundAgrees = (h : Histogram) (bs cs : List ℕ) → (sound h bs cs ≡ true) ↔ Sound h bs cs

-- what is below a bound and what is above it are all
unfoldable pub BelowAndAbove : Type 0
BelowAndAbove = (h : Histogram) (bs cs : List ℕ) (b : Bound) → length cs ≡ suc (length bs) → Sound h bs cs
    → total_below bs cs b + total_above bs cs b ≡ h.count

-- the part that `bins` hands back adds up to what `total_between` answers
unfoldable pub PartAddsUp : Type 0
PartAddsUp = (h : Histogram) (bs cs : List ℕ) (l u : Bound) → standing h bs cs ≡ Ok tt
    → between_answer h bs cs l u ≡ Ok (total (bins_answer h bs cs l u))

-- any two outcomes of a call coincide: this is said of the two that write; every other call's contract says its answer alone
unfoldable pub OpensOneWay : Type 0
OpensOneWay = (bs cs : List ℕ) (r s : Result Histogram Refusal) (cs' cs'' : List ℕ) → OpenPost bs cs r cs' → OpenPost bs cs s cs'' → (r ≡ s) × (cs' ≡ cs'')

unfoldable pub InsertsOneWay : Type 0
InsertsOneWay = (h : Histogram) (bs cs : List ℕ) (v : ℕ) (r s : Result Histogram Refusal) (cs' cs'' : List ℕ)
    → InsertPost h bs cs v r cs' → InsertPost h bs cs v s cs'' → (r ≡ s) × (cs' ≡ cs'')

-- opened and filled by inserts, a histogram tells of the observations
unfoldable pub FilledTells : Type 0
FilledTells = (bs X : List ℕ) → allowed bs ≡ true → Words X → length X ≤ observations → Tells bs X (filled bs (opened bs) X)
