-- The standing where no refusal stands, and what is known there.
-- Assumes nothing.
use mathlib.Core.Path.{◌≡◌, refl, sym, ◌∙◌}
use Prim.Native.Nat.{ℕ, suc, ◌≤◌}
use native.Mathlib.Omega.{arith}
use mathlib.Core.Bool.{Bool, true, false}
use mathlib.Core.List.{List}
use borrow.Author.Tests.{eqb-true, eq-eqb}
use lib.ListN.{length}
use Rattle.refusal.specs.declared.Refusal.{Refusal}
use Rattle.refusal.specs.declared.Refusal.TheVariants.{Slots, Damaged}
use Rattle.entries.specs.Total.{total}
use Rattle.histogram_rows.specs.Bins.{Binned}
use Rattle.histogram_steps.specs.declared.Histogram.{Histogram}
use Rattle.histogram_steps.specs.State.{observations}
use Rattle.std.proofs.Common.{Result, Ok, Err}
use Rattle.histogram_steps.specs.Sound.{Sound, sound}
use Rattle.histogram_steps.specs.Standing.{fits, standing}
use Rattle.histogram_steps.proofs.Sounds.{sound_means}

pub sound_fine : (h : Histogram) (bs cs : List ℕ) → length cs ≡ suc (length bs) → sound h bs cs ≡ true → standing h bs cs ≡ Ok tt
sound_fine h bs cs e t = rw (eq-eqb (length cs) (suc (length bs)) e, t)

-- what is known where no refusal stands: the counts fit, and the state is sound
pub record Ready (h : Histogram) (bs cs : List ℕ) : Type 0 where
  pub fine : standing h bs cs ≡ Ok tt
  pub long : length cs ≡ suc (length bs)
  pub sound_is : Sound h bs cs

pub ready : (h : Histogram) (bs cs : List ℕ) {r : Result (Unit {0}) Refusal} → r ≡ standing h bs cs → r ≡ Ok tt → Ready h bs cs
ready h bs cs e q = go (fits bs cs) (sound h bs cs) refl refl (sym e ∙ q)
  where
    go : (a b : Bool) → fits bs cs ≡ a → sound h bs cs ≡ b → standing h bs cs ≡ Ok tt → Ready h bs cs
    go true true s t f =
        record { fine = f; long = eqb-true (length cs) (suc (length bs)) s; sound_is = sound_means h bs cs t }
    go true false s t f = let g : standing h bs cs ≡ Err Damaged = rw (s, t) in absurd cc
    go false b s t f = let g : standing h bs cs ≡ Err Slots = rw s in absurd cc

module _ {h : Histogram} {bs cs : List ℕ} (s : Ready h bs cs) where
  -- the sum of the counts is small
  pub total_few : total cs ≤ observations
  total_few = omega (arith, s.sound_is.adds_up, s.sound_is.few)

  -- the bins can be asked for
  pub binned : Binned bs cs
  binned = record { never_fall = s.sound_is.never_fall; long = s.long; few = omega (arith, s.long, s.sound_is.few_bounds) }
