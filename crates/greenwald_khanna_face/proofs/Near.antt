-- Neither an insert nor a question needs a slot beyond those held and one more: on the slots in reach alone it answers the same, and leaves the
-- same there.
-- Assumes nothing.
use Rattle.std.specs.Prelude.{Result, Ok, Err}
use mathlib.Core.Path.{◌≡◌, refl, sym, ap, ◌∙◌}
use Prim.Native.Nat.{ℕ, suc, ◌-◌, ◌≤◌, ◌<◌}
use mathlib.Core.Bool.{Bool, true, false}
use mathlib.Core.List.{List, [], ◌++◌, append-nil, append_assoc}
use native.Mathlib.Omega.{arith}
use borrow.Author.Tests.{le-leb, lt-leb, ltb-true}
use lib.Dec.{ltb}
use lib.ListN.{length, take, drop, replicate, take-append-drop}
use lib.Seq.{length-take-le, take-take, take-length, drop-length}
use Rattle.refusal.specs.declared.Refusal.{Refusal}
use Rattle.fraction.specs.declared.Fraction.{Fraction}
use Rattle.entries.specs.declared.Entry.{Entry}
use Rattle.entries.specs.Entry.{zero_entry}
use Rattle.entries.specs.Lists.{layout}
use Rattle.greenwald_khanna_face.specs.InReach.{InsertInReach, AskInReach}
use Rattle.greenwald_khanna_face.specs.Questions.{Question, Quantile, P, N, S, answer_to}
use Rattle.greenwald_khanna_face.specs.Reach.{reach}
use Rattle.greenwald_khanna_steps.specs.declared.Stream.{Stream}
use Rattle.greenwald_khanna_steps.specs.Steps.{after}
use Rattle.greenwald_khanna_steps.specs.Limits.{slots, slots_ok}
use Rattle.greenwald_khanna_steps.specs.Sound.{sound}
use Rattle.greenwald_khanna_told.specs.Answers.{told}
use Rattle.greenwald_khanna.specs.Answers.{inserted, inserted_list, left_by, quantiled}

-- a list that is left, with what stands behind it
left_with : (answer : Result Stream Refusal) (new new' old old' behind : List Entry) → new ++ behind ≡ new' → old ++ behind ≡ old'
    → left_by answer new old ++ behind ≡ left_by answer new' old'
left_with (Ok st) new new' old old' behind p q = p
left_with (Err why) new new' old old' behind p q = q

-- the list with one slot free at least, and the slots held with one more
module _ (st : Stream) (list : List Entry) (h : st.held < length list) (b : length list ≤ slots) where
  abbrev few : List Entry
  few = take (suc st.held) list

  few-length : length few ≡ suc st.held
  few-length = length-take-le (suc st.held) list h

  few-held : take st.held few ≡ take st.held list
  few-held = take-take st.held (suc st.held) list (omega arith)

  few-slots : slots_ok (length few) ≡ slots_ok (length list)
  few-slots =
      rw (few-length, le-leb 1 (suc st.held) (omega arith), le-leb (suc st.held) slots (omega arith), le-leb 1 (length list) (omega arith), le-leb (length list) slots b)

  few-sound : sound st few ≡ sound st list
  unfolding sound
  few-sound = rw (few-length, few-held, le-leb st.held (suc st.held) (omega arith), le-leb st.held (length list) (omega arith))

  few-inserted : (x : ℕ) → inserted st few x ≡ inserted st list x
  unfolding inserted
  few-inserted x = rw (few-slots, few-sound, few-held, few-length, lt-leb (suc st.held) st.held (omega arith), lt-leb (length list) st.held (omega arith))

  few-quantiled : (φ : Fraction) → quantiled st few φ ≡ quantiled st list φ
  unfolding quantiled
  few-quantiled φ = rw (few-slots, few-sound, few-held)

  few-told : (x : ℕ) → told st few x ≡ told st list x
  unfolding told
  few-told x = rw (few-slots, few-sound)

  few-laid : (es : List Entry) → layout zero_entry es (suc st.held) few ++ drop (suc st.held) list ≡ layout zero_entry es (suc st.held) list
  few-laid es =
      let zeros : List Entry = replicate (suc st.held - length es) zero_entry in
      let none : drop (suc st.held) few ≡ [] = ap (λ (k : ℕ). drop k few) (sym few-length) ∙ drop-length few in
      rw (none, append-nil zeros) (append_assoc es zeros (drop (suc st.held) list))

  few-left : (x : ℕ) → inserted_list st few x ++ drop (suc st.held) list ≡ inserted_list st list x
  few-left x =
      rw (few-inserted x, few-held)
      (left_with (inserted st list x) _ _ few list (drop (suc st.held) list) (few-laid (after st list x).entries) (take-append-drop (suc st.held) list))

  few-answer : (q : Question) → answer_to q st few ≡ answer_to q st list
  few-answer (Quantile φ) = few-quantiled φ
  few-answer P = few-told _
  few-answer N = few-told _
  few-answer S = few-told _

-- what holds of the slots held and one more, and of all, holds of those in reach
in_reach : (Q : ℕ → Type 0) (held slots : ℕ) → (held < slots → Q (suc held)) → Q slots → Q (reach held slots)
in_reach Q held slots few all = go (ltb held slots) refl
  where
    go : (t : Bool) → ltb held slots ≡ t → Q (reach held slots)
    go true e = rw e (few (ltb-true held slots e))
    go false e = rw e all

pub insert_in_reach : InsertInReach
unfolding InsertInReach
insert_in_reach st list x b =
    in_reach (λ k. (inserted st (take k list) x ≡ inserted st list x) × (inserted_list st (take k list) x ++ drop k list ≡ inserted_list st list x)) st.held (length list)
    (λ h. (few-inserted st list h b x, few-left st list h b x))
    (rw (take-length list, drop-length list) (refl, append-nil (inserted_list st list x)))

pub ask_in_reach : AskInReach
unfolding AskInReach
ask_in_reach q st list b =
    in_reach (λ k. answer_to q st (take k list) ≡ answer_to q st list) st.held (length list) (λ h. few-answer st list h b q) (rw (take-length list))
