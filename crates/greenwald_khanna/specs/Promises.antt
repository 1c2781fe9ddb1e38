-- What is promised of the stream beside each call's own contract, each statement under its name; the contract of `promises` states them all.
-- Assumes nothing: these are definitions.
use Rattle.std.specs.Prelude.{◌≡◌, true, ℕ, ◌≤◌, List, take, Result, Ok}
use Rattle.refusal.specs.declared.Refusal.{Refusal}
use Rattle.fraction.specs.declared.Fraction.{Fraction}
use Rattle.entries.specs.declared.Entry.{Entry}
use Rattle.entries.specs.Entry.{entries_of, sum_g}
use Rattle.entries.specs.Promises.{Threes}
use Rattle.greenwald_khanna_steps.specs.declared.Stream.{Stream}
use Rattle.greenwald_khanna_steps.specs.Sound.{sound}
use Rattle.greenwald_khanna_steps.specs.Opening.{opened, opened_list, OpenPost}
use Rattle.greenwald_khanna.specs.Answers.{inserted, inserted_list}
use Rattle.greenwald_khanna.specs.Posts.{InsertPost, QuantilePost}
use Rattle.greenwald_khanna_told.specs.Refusals.{ToldExactly}
use Rattle.greenwald_khanna.specs.Refusals.{OpenExactly, InsertExactly, QuantileExactly}

-- a fresh stream is sound
unfoldable pub FreshSound : Type 0
FreshSound = (ε : Fraction) (list : List Entry) (st : Stream) → opened ε list ≡ Ok st → sound st (opened_list ε list) ≡ true

-- an accepted insert leaves a sound stream, from any state that it accepts, reached by a run or not
unfoldable pub AcceptedSound : Type 0
AcceptedSound =
    (st : Stream) (list : List Entry) (x : ℕ) (next : Stream) → inserted st list x ≡ Ok next → sound next (inserted_list st list x) ≡ true

-- of a sound stream the g of the held entries add up to n, and no more entries are held than were accepted
unfoldable pub SumsToN : Type 0
SumsToN = (st : Stream) (list : List Entry) → sound st list ≡ true → (sum_g (take st.held list) ≡ st.n) × (st.held ≤ st.n)

-- any two outcomes that a contract allows for one input coincide: the answers, and every word of the lent rows
unfoldable pub OneOpening : Type 0
OneOpening =
    (ε : Fraction) (before : List Entry) (a b : Result Stream Refusal) (xs ys : List (List ℕ)) → Threes xs → Threes ys
    → OpenPost ε before a (entries_of xs) → OpenPost ε before b (entries_of ys) → (a ≡ b) × (xs ≡ ys)

unfoldable pub OneInsert : Type 0
OneInsert =
    (st : Stream) (before : List Entry) (x : ℕ) (a b : Result Stream Refusal) (xs ys : List (List ℕ)) → Threes xs → Threes ys
    → InsertPost st before x a (entries_of xs) → InsertPost st before x b (entries_of ys) → (a ≡ b) × (xs ≡ ys)

unfoldable pub OneQuantile : Type 0
OneQuantile =
    (st : Stream) (list : List Entry) (φ : Fraction) (a b : Result ℕ Refusal) → QuantilePost st list φ a → QuantilePost st list φ b → a ≡ b

pub record Promises : Type 0 where
  pub fresh_sound : FreshSound
  pub accepted_sound : AcceptedSound
  pub sums_to_n : SumsToN
  pub open_exactly : (ε : Fraction) (list : List Entry) → OpenExactly ε list
  pub insert_exactly : (st : Stream) (list : List Entry) (x : ℕ) → InsertExactly st list x
  pub quantile_exactly : (st : Stream) (list : List Entry) (φ : Fraction) → QuantileExactly st list φ
  pub told_exactly : (st : Stream) (list : List Entry) (x : ℕ) → ToldExactly st list x
  pub one_opening : OneOpening
  pub one_insert : OneInsert
  pub one_quantile : OneQuantile
