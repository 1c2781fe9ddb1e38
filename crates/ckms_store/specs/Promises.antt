-- What is promised of the store beside each call's own contract, each statement under its name; the contract of `promises` states them all.
-- Assumes nothing: these are definitions.
use Rattle.std.specs.Prelude.{◌≡◌, true, ◌↔◌, ℕ, ◌≤◌, ◌<◌, List, ◌∷◌, length, Result, Ok}
use Rattle.refusal.specs.declared.Refusal.{Refusal}
use Rattle.fraction.specs.declared.Fraction.{Fraction}
use Rattle.entries.specs.declared.Entry.{Entry}
use Rattle.entries.specs.Entry.{entries_of, values}
use Rattle.entries.specs.Promises.{Threes}
use Rattle.entries.specs.Ranks.{Rising}
use Rattle.ckms_theory.specs.Blocks.{last_of}
use Rattle.ckms_store_steps.specs.declared.Store.{Store}
use Rattle.ckms_store_steps.specs.Held.{Held}
use Rattle.ckms_store_steps.specs.Sound.{sound, Rules}
use Rattle.ckms_store.specs.Answers.{inserted, inserted_list, inserted_lens, compressed, compressed_list, compressed_lens}
use Rattle.ckms_store_steps.specs.Opening.{OpenPost}
use Rattle.ckms_store_work.specs.Changes.{place_of}
use Rattle.ckms_store.specs.Posts.{InsertPost, CompressPost}
use Rattle.ckms_store.specs.Readings.{StoreReadings}
use Rattle.ckms_store.specs.Refusals.{OpenExactly, CheckExactly, InsertExactly, QueryExactly}

-- the soundness test passes exactly when every rule holds
unfoldable pub SoundExactly : Type 0
SoundExactly = (s : Store) (list : List Entry) (lens : List ℕ) → (sound s list lens ≡ true) ↔ Rules s list lens

-- an accepted insert, and an accepted compression, leave a sound store, from any state that they accept, reached by a run or not
unfoldable pub InsertSound : Type 0
InsertSound =
    (s : Store) (list : List Entry) (lens : List ℕ) (x : ℕ) (next : Store) → inserted s list lens x ≡ Ok next
    → sound next (inserted_list s list lens x) (inserted_lens s list lens x) ≡ true

unfoldable pub CompressSound : Type 0
CompressSound =
    (s : Store) (list : List Entry) (lens : List ℕ) (next : Store) → compressed s list lens ≡ Ok next
    → sound next (compressed_list s list lens) (compressed_lens s list lens) ≡ true

-- a value goes to the front exactly when first v ≥ x, and to the end exactly when last v < x
unfoldable pub EndsByValue : Type 0
EndsByValue =
    (x : ℕ) (e : Entry) (es : List Entry) (ls : List ℕ) → Rising 0 (values (e ∷ es)) → let h : Held = record { entries = e ∷ es; blocks = ls } in
    ((place_of x h ≡ 0) ↔ (x ≤ e.v)) × ((place_of x h ≡ length (e ∷ es)) ↔ (last_of (length (e ∷ es)) (e ∷ es) < x))

-- any two outcomes that a contract allows for one input coincide: the answers, and every word of the lent rows and block lengths
unfoldable pub OneOpening : Type 0
OneOpening =
    (error : Fraction) (block : ℕ) (list : List Entry) (lens : List ℕ) (a b : Result Store Refusal) (xs ys : List (List ℕ)) (ls ms : List ℕ) → Threes xs → Threes ys
    → OpenPost error block list lens a (entries_of xs) ls → OpenPost error block list lens b (entries_of ys) ms → (a ≡ b) × (xs ≡ ys) × (ls ≡ ms)

unfoldable pub OneInsert : Type 0
OneInsert =
    (s : Store) (list : List Entry) (lens : List ℕ) (x : ℕ) (a b : Result Store Refusal) (xs ys : List (List ℕ)) (ls ms : List ℕ) → Threes xs → Threes ys
    → InsertPost s list lens x a (entries_of xs) ls → InsertPost s list lens x b (entries_of ys) ms → (a ≡ b) × (xs ≡ ys) × (ls ≡ ms)

unfoldable pub OneCompression : Type 0
OneCompression =
    (s : Store) (list : List Entry) (lens : List ℕ) (a b : Result Store Refusal) (xs ys : List (List ℕ)) (ls ms : List ℕ) → Threes xs → Threes ys
    → CompressPost s list lens a (entries_of xs) ls → CompressPost s list lens b (entries_of ys) ms → (a ≡ b) × (xs ≡ ys) × (ls ≡ ms)

pub record Promises : Type 0 where
  pub sound_exactly : SoundExactly
  pub insert_sound : InsertSound
  pub compress_sound : CompressSound
  pub ends_by_value : EndsByValue
  pub open_exactly : (error : Fraction) (block : ℕ) (list : List Entry) (lens : List ℕ) → OpenExactly error block list lens
  pub check_exactly : (s : Store) (list : List Entry) (lens : List ℕ) → CheckExactly s list lens
  pub insert_exactly : (s : Store) (list : List Entry) (lens : List ℕ) (x : ℕ) → InsertExactly s list lens x
  pub query_exactly : (s : Store) (list : List Entry) (lens : List ℕ) (q : Fraction) → QueryExactly s list lens q
  pub one_opening : OneOpening
  pub one_insert : OneInsert
  pub one_compression : OneCompression
  pub readings : StoreReadings
