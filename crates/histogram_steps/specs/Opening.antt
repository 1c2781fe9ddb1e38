-- Opening: what it answers, by cases, in the order of the refusal table, and what holds afterwards.
-- Assumes nothing: these are definitions.
use Rattle.std.specs.Prelude.{◌≡◌, ℕ, cond, List, leb, length, replicate, ⊤, Result, Ok, Err}
use Rattle.refusal.specs.declared.Refusal.{Refusal}
use Rattle.refusal.specs.declared.Refusal.TheVariants.{Slots, BoundsEmpty, BoundsMany, BoundsOrder}
use Rattle.entries.specs.Order.{rising}
use Rattle.histogram_steps.specs.declared.Histogram.{Histogram}
use Rattle.histogram_steps.specs.Bounds.{bounds}
use Rattle.histogram_steps.specs.Sound.{Sound}
use Rattle.histogram_steps.specs.Standing.{fits, left}
use Rattle.histogram_steps.specs.State.{fresh}

-- BOUNDS-EMPTY, BOUNDS-MANY, BOUNDS-ORDER, SLOTS
abbrev pub open_standing : List ℕ → List ℕ → Result ⊤ Refusal
open_standing bs cs =
    cond (leb 1 (length bs))
    (cond (leb (length bs) bounds)
    (cond (rising 0 bs)
    (cond (fits bs cs)
    (Ok tt)
    (Err Slots))
    (Err BoundsOrder))
    (Err BoundsMany))
    (Err BoundsEmpty)

-- its answer
abbrev pub open_answer : Result ⊤ Refusal → Result Histogram Refusal
open_answer (Ok x) = Ok fresh
open_answer (Err why) = Err why

-- an opened histogram is sound
abbrev pub OpensSound : Result Histogram Refusal → List ℕ → List ℕ → Type 0
OpensSound (Ok h) bs cs = Sound h bs cs
OpensSound (Err why) bs cs = Unit {0}

-- of `open` over the bounds bs and the counts cs: the answer r, and the counts cs' afterwards
pub record OpenPost (bs cs : List ℕ) (r : Result Histogram Refusal) (cs' : List ℕ) : Type 0 where
  pub answer : r ≡ open_answer (open_standing bs cs)
  pub counts : cs' ≡ left (open_standing bs cs) (replicate (length cs) 0) cs
  pub sound : OpensSound r bs cs'
