-- Demand 3: every call of a run keeps the stream sound and explained by the accepted observations, so every quantile is within the ranks.
-- Assumes nothing.
use Rattle.std.specs.Prelude.{Result, Ok, Err}
use mathlib.Core.Path.{◌≡◌, refl, sym, ap, ◌∙◌, subst}
use Prim.Native.Nat.{ℕ}
use mathlib.Core.Bool.{true}
use mathlib.Core.List.{List, [], ◌∷◌, ◌++◌, append-nil, append_assoc}
use native.Mathlib.Omega.{arith}
use lib.ListN.{length}
use Rattle.refusal.specs.declared.Refusal.{Refusal}
use Rattle.entries.specs.declared.Entry.{Entry}
use Rattle.fraction.specs.declared.Fraction.{Fraction}
use Rattle.greenwald_khanna_theory.specs.Explains.{Explains}
use Rattle.greenwald_khanna_steps.specs.declared.Stream.{Stream}
use Rattle.greenwald_khanna_steps.specs.Limits.{slots_ok}
use Rattle.greenwald_khanna_steps.specs.Sound.{sound, state_of}
use Rattle.greenwald_khanna_steps.specs.Opening.{opened, opened_list}
use Rattle.greenwald_khanna.specs.Answers.{inserted, inserted_list}
use Rattle.greenwald_khanna_steps.proofs.Fresh.{open_passes, opened_length, opened_epsilon, opened_fresh}
use Rattle.greenwald_khanna.proofs.Kept.{Kept, inserted_kept}
use Rattle.noise_floor.specs.Demand3.{Given, given, stream_after, offered, run, taken_by, accepted, Bounded, asked, Demand3}
use Rattle.noise_floor.proofs.Asking.{answered_within}

-- a sound stream with the ε it was opened with, over a list that may be lent, explained by X
pub record Good (ε : Fraction) (X : List ℕ) (at : Given) : Type 0 where
  pub epsilon : at.stream.epsilon ≡ ε
  pub slots : slots_ok (length at.list) ≡ true
  pub sound_is : sound at.stream at.list ≡ true
  pub explained : Explains X (state_of at.stream at.list)

pub good_opened : (ε : Fraction) (list : List Entry) (st : Stream) → opened ε list ≡ Ok st → Good ε [] (given st (opened_list ε list))
good_opened ε list st e =
    let f = opened_fresh ε list st e (opened_list ε list) in
    record {
      epsilon = opened_epsilon ε list st e;
      slots = ap slots_ok (opened_length ε list st e) ∙ (open_passes ε list st e).0;
      sound_is = f.0;
      explained = f.1;
    }

-- an insert leaves it so: t are the observations that it accepts, one or none
offered_good : (ε : Fraction) (X : List ℕ) (at : Given) (x : ℕ) → Good ε X at
    → (t : List ℕ) × ((ys : List ℕ) → taken_by (inserted at.stream at.list x) x ys ≡ t ++ ys) × Good ε (X ++ t) (offered at x)
offered_good ε X at x g = go (inserted at.stream at.list x) refl
  where
    go : (a : Result Stream Refusal) → inserted at.stream at.list x ≡ a
        → (t : List ℕ) × ((ys : List ℕ) → taken_by (inserted at.stream at.list x) x ys ≡ t ++ ys) × Good ε (X ++ t) (offered at x)
    go (Ok next) e =
        let k : Kept at.stream at.list x next (inserted_list at.stream at.list x) = inserted_kept at.stream at.list x next e in
        let same : offered at x ≡ given next (inserted_list at.stream at.list x) =
        ap (λ (a : Result Stream Refusal). given (stream_after a at.stream) (inserted_list at.stream at.list x)) e in (
          x ∷ [],
          λ ys. rw e,
          subst (λ (b : Given). Good ε (X ++ x ∷ []) b) (sym same) (record {
            epsilon = k.epsilon ∙ g.epsilon;
            slots = ap slots_ok k.slots ∙ g.slots;
            sound_is = k.sound_is;
            explained = k.explained X g.explained;
          }),
        )
    go (Err why) e =
        let same : offered at x ≡ at = rw e in
        ([], λ ys. rw e, rw (append-nil X, same) g)

pub good_run : (ε : Fraction) (X : List ℕ) (at : Given) (xs : List ℕ) → Good ε X at → Good ε (X ++ accepted at xs) (run at xs)
unfolding run accepted
good_run ε X at [] g = rw (append-nil X) g
good_run ε X at (x ∷ xs) g =
    let o = offered_good ε X at x g in
    let ys : List ℕ = accepted (offered at x) xs in
    rw (o.1 ys, ← append_assoc X o.0 ys) (good_run ε (X ++ o.0) (offered at x) xs o.2)

pub good_asked : (ε : Fraction) (X : List ℕ) (at : Given) (φ : Fraction) → Good ε X at → Bounded ε φ X (asked at φ)
good_asked ε X at φ g one c =
    let n : length X ≡ at.stream.n = g.explained.members in
    rw (← g.epsilon, n) (answered_within at.stream at.list φ g.slots g.sound_is c X g.explained (omega arith))

pub demand3 : Demand3
unfolding Demand3
demand3 ε list st e xs φ =
    let at : Given = given st (opened_list ε list) in
    good_asked ε (accepted at xs) (run at xs) φ (good_run ε [] at xs (good_opened ε list st e))
