-- What is promised of the calls beside their contracts, each statement under its name; the contract of `promises` states them all.
-- Assumes nothing: these are definitions.
use Rattle.std.specs.Prelude.{◌≡◌, ℕ, Result, List}
use Rattle.refusal.specs.declared.Refusal.{Refusal}
use Rattle.entries.specs.declared.Entry.{Entry}
use Rattle.fraction.specs.declared.Fraction.{Fraction}
use Rattle.greenwald_khanna_steps.specs.declared.Stream.{Stream}
use Rattle.greenwald_khanna_steps.specs.Opening.{OpenPost}
use Rattle.greenwald_khanna.specs.Posts.{InsertPost}
use Rattle.greenwald_khanna_face.specs.InReach.{InsertInReach, AskInReach}

-- two outcomes of one input are the same answer and the same entries
unfoldable pub OneOpening : Type 0
OneOpening =
    (ε : Fraction) (before : List Entry) (a b : Result Stream Refusal) (xs ys : List Entry)
    → OpenPost ε before a xs → OpenPost ε before b ys → (a ≡ b) × (xs ≡ ys)

unfoldable pub OneInsert : Type 0
OneInsert =
    (st : Stream) (before : List Entry) (x : ℕ) (a b : Result Stream Refusal) (xs ys : List Entry)
    → InsertPost st before x a xs → InsertPost st before x b ys → (a ≡ b) × (xs ≡ ys)

pub record Promises : Type 0 where
  pub one_opening : OneOpening
  pub one_insert : OneInsert
  pub insert_in_reach : InsertInReach
  pub ask_in_reach : AskInReach
