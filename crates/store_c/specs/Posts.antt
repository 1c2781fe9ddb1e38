-- What holds after each call on a store that writes: the core's post-condition of the core's answer, and the answer in numbers.
-- Assumes nothing: these are definitions.
use Rattle.std.specs.Prelude.{◌≡◌, ℕ, List, Result}
use Rattle.refusal.specs.declared.Refusal.{Refusal}
use Rattle.entries.specs.declared.Entry.{Entry}
use Rattle.ckms_store_steps.specs.declared.Store.{Store}
use Rattle.ckms_store_steps.specs.Opening.{OpenPost}
use Rattle.ckms_store.specs.Posts.{InsertPost, CompressPost}
use Rattle.words.specs.declared.Ratio.{Ratio}
use Rattle.store_words.specs.declared.StoreWords.{StoreWords}
use Rattle.store_words.specs.declared.StoreAnswer.{StoreAnswer}
use Rattle.words.specs.Words.{fraction_of}
use Rattle.store_words.specs.Stores.{store_of, flat_opened, flat_inserted, flat_compressed}

-- `stelo_store_open`
pub record StoreOpenPost (error : Ratio) (block : ℕ) (list : List Entry) (lens : List ℕ)
    (answer : StoreAnswer) (list' : List Entry) (lens' : List ℕ) : Type 0 where
  pub core : Result Store Refusal
  pub post : OpenPost (fraction_of error) block list lens core list' lens'
  pub flat : answer ≡ flat_opened core

-- `stelo_store_insert`
pub record StoreInsertPost (given : StoreWords) (list : List Entry) (lens : List ℕ) (x : ℕ)
    (answer : StoreAnswer) (list' : List Entry) (lens' : List ℕ) : Type 0 where
  pub core : Result Store Refusal
  pub post : InsertPost (store_of given) list lens x core list' lens'
  pub flat : answer ≡ flat_inserted given core

-- `stelo_store_compress`
pub record StoreCompressPost (given : StoreWords) (list : List Entry) (lens : List ℕ)
    (answer : StoreAnswer) (list' : List Entry) (lens' : List ℕ) : Type 0 where
  pub core : Result Store Refusal
  pub post : CompressPost (store_of given) list lens core list' lens'
  pub flat : answer ≡ flat_compressed given core
