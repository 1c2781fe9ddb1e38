-- A run of inserts, one observation after another, as the loop makes it.
-- Assumes nothing.
use Rattle.std.specs.Prelude.{Result}
use mathlib.Core.Path.{◌≡◌}
use Prim.Native.Nat.{ℕ, ◌+◌, ◌≤◌, ◌<◌}
use mathlib.Core.List.{List}
use native.Mathlib.Numerals.{add-one}
use lib.ListN.{length, get_or, drop, drop_of_length-le}
use lib.Seq.{drop-cons}
use Rattle.refusal.specs.declared.Refusal.{Refusal}
use Rattle.entries.specs.declared.Entry.{Entry}
use Rattle.greenwald_khanna_steps.specs.declared.Stream.{Stream}
use Rattle.greenwald_khanna.specs.Posts.{InsertPost}
use Rattle.noise_floor.specs.Demand3.{Given, given, stream_after, offered, run}

-- a turn: the insert's contract says what is left to the next one
module _ (obs : List ℕ) (i : ℕ) (all : Given) (st : Stream) (list : List Entry) (e : run (given st list) (drop i obs) ≡ all) where
  pub run_turn : i < length obs → (answer : Result Stream Refusal) (left : List Entry) (next : Stream) → InsertPost st list (get_or obs i 0) answer left → next ≡ stream_after answer st
      → run (given next left) (drop (i + 1) obs) ≡ all
  unfolding run
  run_turn h answer left next p n =
      let same : given next left ≡ offered (given st list) (get_or obs i 0) =
      rw (n, p.answered, p.left) in
      rw (same, add-one i) (rw (drop-cons obs i 0 h) at e)

  -- nothing left to insert
  pub run_done : length obs ≤ i → given st list ≡ all
  unfolding run
  run_done h = rw (drop_of_length-le obs h) at e
