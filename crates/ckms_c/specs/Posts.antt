-- What holds after each call on a CKMS that writes: the core's post-condition of the core's answer, and the answer in numbers.
-- Assumes nothing: these are definitions.
use Rattle.std.specs.Prelude.{◌≡◌, ℕ, List, Result}
use Rattle.refusal.specs.declared.Refusal.{Refusal}
use Rattle.entries.specs.declared.Entry.{Entry}
use Rattle.ckms_steps.specs.declared.CKMS.{CKMS}
use Rattle.ckms_steps.specs.Opening.{OpenPost}
use Rattle.ckms.specs.Posts.{InsertPost}
use Rattle.words.specs.declared.Ratio.{Ratio}
use Rattle.ckms_words.specs.declared.CkmsWords.{CkmsWords}
use Rattle.ckms_answer_words.specs.declared.CkmsAnswer.{CkmsAnswer}
use Rattle.words.specs.Words.{fraction_of}
use Rattle.ckms_words.specs.Ckmses.{ckms_of}
use Rattle.ckms_answer_words.specs.CkmsAnswers.{flat_opened, flat_inserted}

-- `stelo_ckms_open`
pub record CkmsOpenPost (error : Ratio) (list : List Entry) (lens : List ℕ)
    (answer : CkmsAnswer) (list' : List Entry) (lens' : List ℕ) : Type 0 where
  pub core : Result CKMS Refusal
  pub post : OpenPost (fraction_of error) list lens core list' lens'
  pub flat : answer ≡ flat_opened core

-- `stelo_ckms_insert`
pub record CkmsInsertPost (given : CkmsWords) (list : List Entry) (lens : List ℕ) (x : ℕ)
    (answer : CkmsAnswer) (list' : List Entry) (lens' : List ℕ) : Type 0 where
  pub core : Result CKMS Refusal
  pub post : InsertPost (ckms_of given) list lens x core list' lens'
  pub flat : answer ≡ flat_inserted given core
