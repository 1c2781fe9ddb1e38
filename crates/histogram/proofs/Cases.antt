-- What `insert` answers where it takes the value.
-- Assumes nothing.
use mathlib.Core.Path.{◌≡◌}
use Prim.Native.Nat.{ℕ, ◌≤◌, ◌<◌}
use mathlib.Core.List.{List}
use borrow.Author.Tests.{lt-ltb}
use Rattle.histogram_rows.specs.Bins.{counted}
use Rattle.histogram_steps.specs.declared.Histogram.{Histogram}
use Rattle.std.proofs.Common.{Ok}
use Rattle.histogram_steps.specs.State.{observations, largest, taken}
use Rattle.histogram_steps.proofs.Keeping.{taken_sound}
use Rattle.histogram_steps.proofs.Standings.{Ready}
use Rattle.histogram.specs.Answers.{insert_standing}
use Rattle.histogram.specs.Posts.{InsertPost}

module _ {h : Histogram} {bs cs : List ℕ} (s : Ready h bs cs) where
  pub taken_insert : (v : ℕ) → h.count < observations → v ≤ largest → {r : Histogram} {cs' : List ℕ} → r ≡ taken h v → cs' ≡ counted bs cs v
      → InsertPost h bs cs v (Ok r) cs'
  taken_insert v n l p q =
      let i : insert_standing h bs cs ≡ Ok tt = rw (s.fine, lt-ltb h.count observations n) in
      record { answer = rw (i, p); counts = rw i q; sound = rw (p, q) (taken_sound h bs cs v s.long s.sound_is n l) }
