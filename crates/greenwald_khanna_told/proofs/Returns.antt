-- What the calls return is the answer by its definition.
-- Assumes nothing.
use Rattle.std.specs.Prelude.{Ok, Err}
use mathlib.Core.Path.{◌≡◌, refl, sym, ap, ◌∙◌}
use Prim.Native.Nat.{ℕ}
use mathlib.Core.Bool.{Bool, true, false}
use mathlib.Core.List.{List}
use Rattle.refusal.specs.declared.Refusal.{Refusal}
use Rattle.fraction.specs.Allowed.{is_epsilon, within}
use Rattle.fraction.specs.Products.{p_of}
use Rattle.fraction.proofs.Tests.{within_true}
use Rattle.entries.specs.declared.Entry.{Entry}
use Rattle.greenwald_khanna_steps.specs.declared.Stream.{Stream}
use Rattle.greenwald_khanna_steps.specs.Sound.{sound, checked}
use Rattle.greenwald_khanna_steps.proofs.Checks.{checked_passes, checked_refuses}
use Rattle.greenwald_khanna_steps.proofs.Sounds.{sound_facts}
use Rattle.greenwald_khanna_told.specs.Answers.{told, told_p}
use Rattle.greenwald_khanna_told.proofs.Exactly.{told_exactly}

-- what the tests refuse, and what they pass
module _ (st : Stream) (list : List Entry) (x : ℕ) where
  pub told_refused : (why : Refusal) → Err why ≡ checked st list → Err why ≡ told st list x
  unfolding told
  told_refused why e = checked_refuses st list (Ok x) why e

  pub told_passed : Ok tt ≡ checked st list → Ok x ≡ told st list x
  told_passed e = sym ((told_exactly st list x).value.1 (checked_passes st list e))

-- telling p: of a sound stream, whose ε is allowed
pub told_p_lem : (st : Stream) (list : List Entry) (x : ℕ) → x ≡ within (is_epsilon st.epsilon) (p_of st.epsilon st.n) → told st list x ≡ told_p st list
unfolding told
told_p_lem st list x h = go (sound st list) refl
  where
    go : (b : Bool) → sound st list ≡ b → told st list x ≡ told_p st list
    go true e = ap (told st list) (h ∙ within_true (p_of st.epsilon st.n) (sound_facts st list e).epsilon)
    go false e = rw e
