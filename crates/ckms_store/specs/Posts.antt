-- What holds after each call but opening: its answer and both lent lists as functions of the input; and an accepted call leaves a sound state.
-- Assumes nothing: these are definitions.
use Rattle.std.specs.Prelude.{◌≡◌, true, ℕ, List, Result, Ok}
use Rattle.refusal.specs.declared.Refusal.{Refusal}
use Rattle.entries.specs.declared.Entry.{Entry}
use Rattle.ckms_store_steps.specs.declared.Store.{Store}
use Rattle.ckms_store_steps.specs.Sound.{sound}
use Rattle.ckms_store.specs.Answers.{inserted, inserted_list, inserted_lens, compressed, compressed_list, compressed_lens}

pub record InsertPost (s : Store) (list : List Entry) (lens : List ℕ) (x : ℕ) (answer : Result Store Refusal) (list' : List Entry) (lens' : List ℕ) : Type 0 where
  pub answered : answer ≡ inserted s list lens x
  pub entries : list' ≡ inserted_list s list lens x
  pub blocks : lens' ≡ inserted_lens s list lens x
  pub kept : (next : Store) → answer ≡ Ok next → sound next list' lens' ≡ true

pub record CompressPost (s : Store) (list : List Entry) (lens : List ℕ) (answer : Result Store Refusal) (list' : List Entry) (lens' : List ℕ) : Type 0 where
  pub answered : answer ≡ compressed s list lens
  pub entries : list' ≡ compressed_list s list lens
  pub blocks : lens' ≡ compressed_lens s list lens
  pub kept : (after : Store) → answer ≡ Ok after → sound after list' lens' ≡ true
