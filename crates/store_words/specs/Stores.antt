-- A store's state as words, and its answers as numbers.
-- Assumes nothing: these are definitions.
use Rattle.std.specs.Prelude.{ℕ, Bool, cond, Result, Ok, Err}
use Rattle.refusal.specs.declared.Refusal.{Refusal}
use Rattle.refusal.specs.Number.{number_of}
use Rattle.ckms_theory.specs.declared.Ranked.{Ranked}
use Rattle.ckms_store_steps.specs.declared.Store.{Store}
use Rattle.words.specs.declared.Number.{Number}
use Rattle.words.specs.Words.{refused, number_told}
use Rattle.store_words.specs.declared.StoreWords.{StoreWords}
use Rattle.store_words.specs.declared.StoreAnswer.{StoreAnswer}
use Rattle.store_words.specs.declared.RankedAnswer.{RankedAnswer}

-- the state of words, and back
abbrev pub store_of : StoreWords → Store
store_of w = record { error = record { num = w.num; den = w.den }; n = w.n; held = w.held; block = w.block; blocks = w.blocks }

abbrev pub words_of : Store → StoreWords
words_of s = record { num = s.error.num; den = s.error.den; n = s.n; held = s.held; block = s.block; blocks = s.blocks }

-- an insert or a compression: the store after it, or the refusal's number and the store that was given
abbrev pub flat_inserted : StoreWords → Result Store Refusal → StoreAnswer
flat_inserted given (Ok s) = record { refusal = 0; store = words_of s }
flat_inserted given (Err why) = record { refusal = number_of why; store = given }

abbrev pub flat_compressed : StoreWords → Result Store Refusal → StoreAnswer
flat_compressed given answer = flat_inserted given answer

-- opening: the store, or the refusal's number
abbrev pub flat_opened : Result Store Refusal → StoreAnswer
flat_opened answer = flat_inserted record { num = 0; den = 0; n = 0; held = 0; block = 0; blocks = 0 } answer

-- the entries held, or the refusal's number
abbrev pub flat_len : Result ℕ Refusal → Number
flat_len answer = number_told answer

-- 1 if none is held, else 0; or the refusal's number
abbrev pub flat_empty : Result Bool Refusal → Number
flat_empty (Ok b) = record { refusal = 0; value = cond b 1 0 }
flat_empty (Err why) = refused why

-- rank and value, or the refusal's number
abbrev pub flat_ranked : Result Ranked Refusal → RankedAnswer
flat_ranked (Ok found) = record { refusal = 0; rank = found.rank; value = found.value }
flat_ranked (Err why) = record { refusal = number_of why; rank = 0; value = 0 }
