-- What is promised of a CKMS beside each call's own contract, each statement under its name; the contract of `promises` states them all.
-- Assumes nothing: these are definitions.
use Rattle.std.specs.Prelude.{◌≡◌, true, ◌↔◌, ℕ, ◌<◌, List, T, Some, None, Result}
use Rattle.refusal.specs.declared.Refusal.{Refusal}
use Rattle.fraction.specs.declared.Fraction.{Fraction}
use Rattle.entries.specs.declared.Entry.{Entry}
use Rattle.entries.specs.Entry.{entries_of}
use Rattle.entries.specs.Promises.{Threes}
use Rattle.mean.specs.declared.Mean.{Mean}
use Rattle.mean.specs.Mean.{finite}
use Rattle.ckms_store_steps.specs.Sound as store
use Rattle.ckms_steps.specs.declared.CKMS.{CKMS}
use Rattle.ckms_steps.specs.State.{samples, modulus, sound}
use Rattle.ckms_steps.specs.Opening.{OpenPost}
use Rattle.ckms.specs.Posts.{InsertPost}
use Rattle.ckms.specs.Readings.{CkmsReadings}
use Rattle.ckms.specs.Refusals.{OpenExactly, CheckExactly, InsertExactly, QueryExactly}

-- the rules of a sound CKMS, beside those of its store
pub record Rules (c : CKMS) (list : List Entry) (lens : List ℕ) : Type 0 where
  pub samples : store.Rules (samples c) list lens
  pub counter : c.inserts < modulus c.error
  pub last_none : (c.last_in ≡ None) ↔ (c.n ≡ 0)
  pub mean_none : (c.cma ≡ None) ↔ (c.n ≡ 0)
  pub mean_finite : (m : Mean) → c.cma ≡ Some m → T (finite m.value)

-- the soundness test passes exactly when every rule holds
unfoldable pub SoundExactly : Type 0
SoundExactly = (c : CKMS) (list : List Entry) (lens : List ℕ) → (sound c list lens ≡ true) ↔ Rules c list lens

-- any two outcomes that a contract allows for one input coincide: the answers, and every word of the lent rows and block lengths
unfoldable pub OneOpening : Type 0
OneOpening =
    (error : Fraction) (list : List Entry) (lens : List ℕ) (a b : Result CKMS Refusal) (xs ys : List (List ℕ)) (ls ms : List ℕ) → Threes xs → Threes ys
    → OpenPost error list lens a (entries_of xs) ls → OpenPost error list lens b (entries_of ys) ms → (a ≡ b) × (xs ≡ ys) × (ls ≡ ms)

unfoldable pub OneInsert : Type 0
OneInsert =
    (c : CKMS) (list : List Entry) (lens : List ℕ) (x : ℕ) (a b : Result CKMS Refusal) (xs ys : List (List ℕ)) (ls ms : List ℕ) → Threes xs → Threes ys
    → InsertPost c list lens x a (entries_of xs) ls → InsertPost c list lens x b (entries_of ys) ms → (a ≡ b) × (xs ≡ ys) × (ls ≡ ms)

pub record Promises : Type 0 where
  pub sound_exactly : SoundExactly
  pub open_exactly : (error : Fraction) (list : List Entry) (lens : List ℕ) → OpenExactly error list lens
  pub check_exactly : (c : CKMS) (list : List Entry) (lens : List ℕ) → CheckExactly c list lens
  pub insert_exactly : (c : CKMS) (list : List Entry) (lens : List ℕ) (x : ℕ) → InsertExactly c list lens x
  pub query_exactly : (c : CKMS) (list : List Entry) (lens : List ℕ) (q : Fraction) → QueryExactly c list lens q
  pub one_opening : OneOpening
  pub one_insert : OneInsert
  pub readings : CkmsReadings
