-- An accepted insert leaves a sound stream, explained by the observation added; a fresh stream is sound; a quantile is within the ranks.
-- Assumes nothing.
use Rattle.std.specs.Prelude.{Ok}
use mathlib.Core.Path.{◌≡◌, refl, sym, ap, subst}
use Prim.Native.Nat.{ℕ, suc, ◌≤◌}
use mathlib.Core.Bool.{true}
use mathlib.Core.List.{List, [], ◌∷◌, ◌++◌}
use native.Mathlib.Omega.{arith}
use lib.ListN.{length}
use lib.Seq.{length-take-le}
use Rattle.entries.specs.declared.Entry.{Entry}
use Rattle.entries.specs.Entry.{zero_entry}
use Rattle.entries.specs.Lists.{layout}
use Rattle.entries.proofs.Layouts.{layout_front, layout_room, layout_length}
use Rattle.fraction.specs.declared.Fraction.{Fraction}
use Rattle.greenwald_khanna_theory.specs.Explains.{Explains}
use Rattle.greenwald_khanna_theory.specs.Promises.{Sound, InsertKeeps}
use Rattle.greenwald_khanna_theory.specs.State.{State}
use Rattle.greenwald_khanna_theory.proofs.Explaining.{insert_keeps}
use Rattle.greenwald_khanna_steps.specs.declared.Stream.{Stream}
use Rattle.greenwald_khanna_steps.specs.Steps.{after, stream_of}
use Rattle.greenwald_khanna_steps.specs.Sound.{sound, state_of}
use Rattle.greenwald_khanna_steps.specs.Steps.{Accepts}
use Rattle.greenwald_khanna_steps.proofs.Lengths.{insert_length, insert_count}
use Rattle.greenwald_khanna_steps.proofs.Sounds.{Facts, sound_facts, facts_sound}
use Rattle.greenwald_khanna.specs.Answers.{inserted, inserted_list}
use Rattle.greenwald_khanna.proofs.Cases.{taken_passes, taken_list}

-- the stream that holds s finds s in the list that holds its entries
state_back : (ε : Fraction) (s : State) (most : ℕ) (list : List Entry) → state_of (stream_of ε s) (layout zero_entry s.entries most list) ≡ s
state_back ε s most list =
    ap (λ (es : List Entry). let t : State = record { n = s.n; entries = es } in t) (layout_front zero_entry s.entries most list)

-- what an accepted insert leaves, from any sound stream
pub record Kept (st : Stream) (before : List Entry) (x : ℕ) (next : Stream) (list : List Entry) : Type 0 where
  pub sound_is : sound next list ≡ true
  pub slots : length list ≡ length before
  pub epsilon : next.epsilon ≡ st.epsilon
  pub explained : (X : List ℕ) → Explains X (state_of st before) → Explains (X ++ x ∷ []) (state_of next list)

module _ (st : Stream) (before : List Entry) (x : ℕ) (p : Accepts st before) where
  abbrev new : State
  new = after st before x

  abbrev left : List Entry
  left = layout zero_entry new.entries (suc st.held) before

  pub kept : Kept st before x (stream_of st.epsilon new) left
  unfolding InsertKeeps
  kept =
      let f : Facts st before = sound_facts st before p.unharmed in
      let b : State = state_of st before in
      let k = insert_keeps st.epsilon b x f.entries in
      let back : state_of (stream_of st.epsilon new) left ≡ new = state_back st.epsilon new (suc st.held) before in
      let most : length new.entries ≤ suc st.held = omega (arith, insert_length st.epsilon b x, length-take-le st.held before f.room) in
      record {
        sound_is = facts_sound (stream_of st.epsilon new) left (record {
          epsilon = f.epsilon;
          count = omega (arith, insert_count st.epsilon b x, p.count);
          room = layout_room zero_entry new.entries (suc st.held) before;
          entries = subst (λ (s : State). Sound st.epsilon s) (sym back) k.0;
        });
        slots = layout_length zero_entry new.entries (suc st.held) before most p.room;
        epsilon = refl;
        explained = λ X h. subst (λ (s : State). Explains (X ++ x ∷ []) s) (sym back) (k.1 X h);
      }

-- the same, said of the answer and of the list by their definitions
pub inserted_kept : (st : Stream) (before : List Entry) (x : ℕ) (next : Stream) → inserted st before x ≡ Ok next
    → Kept st before x next (inserted_list st before x)
inserted_kept st before x next e =
    let t = taken_passes st before x next e in
    rw (taken_list st before x next e, t.1) (kept st before x t.0)
