-- What opening returns meets its contract: it answers as the store does, whose block size is never refused.
-- Assumes nothing.
use mathlib.Core.Path.{◌≡◌, refl, sym, ap, ◌∙◌}
use Prim.Native.Nat.{ℕ}
use mathlib.Core.Bool.{Bool, true, false, cond, not}
use mathlib.Core.List.{List}
use lib.ListN.{length}
use Rattle.std.specs.Prelude.{Result, Ok, Err}
use native.Mathlib.Nat.{le-max_left}
use borrow.Author.Tests.{lt-ltb}
use Rattle.refusal.specs.declared.Refusal.{Refusal}
use Rattle.refusal.specs.declared.Refusal.TheVariants.{Slots, Epsilon}
use Rattle.fraction.specs.declared.Fraction.{Fraction}
use Rattle.fraction.specs.Allowed.{is_error}
use Rattle.fraction.specs.Products.{period}
use Rattle.entries.specs.declared.Entry.{Entry}
use Rattle.entries.specs.Entry.{zero_entry}
use Rattle.ckms_store_steps.specs.declared.Store.{Store}
use Rattle.ckms_store_steps.specs.Limits.{slots_ok}
use Rattle.ckms_store_steps.specs.Opening as storing
use Rattle.ckms_steps.specs.declared.CKMS.{CKMS}
use Rattle.ckms_steps.specs.Opening.{fresh, opened, zeroed_by, OpenPost}
use Rattle.ckms_steps.specs.State.{block, samples, modulus, record_sound}

module _ (error : Fraction) (list : List Entry) (lens : List ℕ) where
  abbrev pub carried : Result Store Refusal → Result CKMS Refusal
  carried (Ok s) = Ok (fresh error)
  carried (Err why) = Err why

  carried-opened : opened error list lens ≡ carried (storing.opened error block list lens)
  unfolding opened storing.opened
  carried-opened = go (slots_ok (length list) (length lens)) (is_error error)
    where
      go : (p q : Bool) → cond (not p) (Err Slots) (cond (not q) (Err Epsilon) (Ok (fresh error)))
          ≡ carried (cond (not p) (Err Slots) (cond (not q) (Err Epsilon) (Ok (storing.fresh error block))))
      go true true = refl
      go true false = refl
      go false q = refl

  -- and so do the lent lists
  carried-list : {A : Type 0} (o : Result Store Refusal) (zero : A) (xs : List A) → storing.zeroed_by o zero xs ≡ zeroed_by (carried o) zero xs
  carried-list (Ok s) zero xs = refl
  carried-list (Err why) zero xs = refl

  fresh-record : record_sound (fresh error) ≡ true
  fresh-record = rw (lt-ltb 0 (modulus error) (le-max_left 1 (period error)))

  -- an opened store is a fresh one
  opened_fresh : (s : Store) → Ok s ≡ storing.opened error block list lens → s ≡ storing.fresh error block
  unfolding storing.opened
  opened_fresh s = go (slots_ok (length list) (length lens)) (is_error error)
    where
      go : (p q : Bool) → Ok s ≡ cond (not p) (Err Slots) (cond (not q) (Err Epsilon) (Ok (storing.fresh error block))) → s ≡ storing.fresh error block
      go true true e = cc
      go true false e = cc
      go false q e = cc

  module _ (o : Result Store Refusal) (list' : List Entry) (lens' : List ℕ) (p : storing.OpenPost error block list lens o list' lens') where
    abbrev a : opened error list lens ≡ carried o
    a = carried-opened ∙ ap carried (sym p.answered)

    pub open_refused : (r : Result CKMS Refusal) (why : Refusal) → r ≡ Err why → o ≡ Err why → OpenPost error list lens r list' lens'
    open_refused r why q e = record {
      answered = q ∙ sym (ap carried e) ∙ sym a;
      entries = p.entries ∙ carried-list (storing.opened error block list lens) zero_entry list ∙ ap (λ r. zeroed_by r zero_entry list) (sym carried-opened);
      blocks = p.blocks ∙ carried-list (storing.opened error block list lens) 0 lens ∙ ap (λ r. zeroed_by r 0 lens) (sym carried-opened);
      fresh = λ c k. cc;
    }

    pub open_fresh : (s : Store) → o ≡ Ok s → OpenPost error list lens (Ok (fresh error)) list' lens'
    open_fresh s e = record {
      answered = sym (ap carried e) ∙ sym a;
      entries = p.entries ∙ carried-list (storing.opened error block list lens) zero_entry list ∙ ap (λ r. zeroed_by r zero_entry list) (sym carried-opened);
      blocks = p.blocks ∙ carried-list (storing.opened error block list lens) 0 lens ∙ ap (λ r. zeroed_by r 0 lens) (sym carried-opened);
      fresh = λ c q.
          let w : c ≡ fresh error = cc in
          let f : s ≡ samples (fresh error) = opened_fresh s (sym e ∙ p.answered) in
          rw (w, ← f, p.fresh s e) fresh-record;
    }
