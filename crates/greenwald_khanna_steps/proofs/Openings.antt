-- What opening returns meets its contract.
-- Assumes nothing.
use mathlib.Core.Path.{◌≡◌, sym, ap, ◌∙◌}
use mathlib.Core.Bool.{true, false}
use Rattle.std.specs.Prelude.{Ok, Err}
use mathlib.Core.List.{List, map}
use lib.ListN.{length, replicate, length-map}
use Rattle.refusal.specs.declared.Refusal.{Refusal}
use Rattle.refusal.specs.declared.Refusal.TheVariants.{Slots, Epsilon}
use Rattle.fraction.specs.declared.Fraction.{Fraction}
use Rattle.fraction.specs.Allowed.{is_epsilon}
use Rattle.entries.specs.declared.Entry.{Entry}
use Rattle.entries.specs.Entry.{zero_entry}
use Rattle.entries.specs.Lists.{cleared}
use Rattle.entries.proofs.Layouts.{cleared_all}
use Rattle.entries.proofs.Maps.{map_cleared}
use Rattle.greenwald_khanna_steps.specs.Limits.{slots_ok}
use Rattle.greenwald_khanna_steps.specs.Opening.{opened, OpenPost}
use Rattle.greenwald_khanna_steps.proofs.Fresh.{fresh_stream, opened_fresh}

-- opening
module _ (ε : Fraction) (before : List Entry) where
  pub open_slots : slots_ok (length before) ≡ false → opened ε before ≡ Err Slots
  unfolding opened
  open_slots a = rw a

  pub open_epsilon : slots_ok (length before) ≡ true → is_epsilon ε ≡ false → opened ε before ≡ Err Epsilon
  unfolding opened
  open_epsilon a b = rw (a, b)

  pub open_refused : (why : Refusal) → opened ε before ≡ Err why → OpenPost ε before (Err why) before
  open_refused why e = record { answered = sym e; left = rw e; fresh = λ st a. opened_fresh ε before st (e ∙ a) before }

  pub open_accepted : (list : List Entry) → slots_ok (length before) ≡ true → is_epsilon ε ≡ true → list ≡ replicate (length before) zero_entry
      → OpenPost ε before (Ok (fresh_stream ε)) list
  unfolding opened
  open_accepted list a b l =
      let e : opened ε before ≡ Ok (fresh_stream ε) = rw (a, b) in
      record { answered = sym e; left = l ∙ rw e; fresh = λ st k. opened_fresh ε before st (e ∙ k) list }

-- all places cleared hold zero entries
pub all_cleared : {A : Type 0} (entry : A → Entry) (zero : A) (list left : List A) → entry zero ≡ zero_entry → left ≡ cleared zero 0 (length list) list
    → map entry left ≡ replicate (length (map entry list)) zero_entry
all_cleared entry zero list left z e =
    ap (map entry) e
    ∙ map_cleared entry zero 0 (length list) list
    ∙ rw (z, ← length-map list entry) (cleared_all zero_entry (map entry list))
