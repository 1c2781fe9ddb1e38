-- Each refusal is given exactly when its test fails and the tests before it pass.
-- Assumes nothing.
use mathlib.Core.Path.{◌≡◌, ◌∙◌}
use Prim.Native.Nat.{ℕ, suc, ◌<◌}
use mathlib.Core.Bool.{Bool, not}
use mathlib.Core.List.{List}
use native.Mathlib.Omega.{arith}
use borrow.Author.Tests.{leb-true, leb-false, le-leb, lt-leb, eqb-true, eqb-false, eq-eqb, ne_eqb}
use lib.Dec.{leb, eqb}
use Rattle.std.specs.Prelude.{Result, Ok, Err}
use lib.ListN.{length, take}
use Rattle.refusal.specs.declared.Refusal.{Refusal}
use Rattle.refusal.specs.declared.Refusal.TheVariants.{Slots, Damaged}
use Rattle.fraction.specs.declared.Fraction.{Fraction}
use Rattle.fraction.specs.Allowed.{is_phi, is_error}
use Rattle.entries.specs.declared.Entry.{Entry}
use Rattle.entries.proofs.Choose.{by_order}
use Rattle.entries.proofs.Guards.{refused, passed, unmet, met, neither, both_passed, first_refused, second_refused}
use Rattle.ckms_theory.specs.declared.Ranked.{Ranked}
use Rattle.ckms_theory.specs.Walk.{look_up}
use Rattle.ckms_store_steps.specs.declared.Store.{Store}
use Rattle.ckms_store_steps.specs.Answers.{tested, checked, state_of}
use Rattle.ckms_store_steps.specs.Limits.{observations, slots_ok, size_ok}
use Rattle.ckms_store_steps.specs.Sound.{sound}
use Rattle.ckms_store_steps.proofs.Tested.{same_refusals}
use Rattle.ckms_store_work.proofs.Works.{ruled}
use Rattle.ckms_store_steps.specs.Opening.{fresh, opened}
use Rattle.ckms_store_work.specs.Changes.{put_in, tidy_in}
use Rattle.ckms_store_look.specs.Query.{scale_of, limit_of}
use Rattle.ckms_store_work.specs.Steps.{Ready}
use Rattle.ckms_store.specs.Answers.{inserted, compressed, len_of, empty_of, queried}
use Rattle.ckms_store.specs.Refusals.{OpenExactly, CheckExactly, InsertExactly, QueryExactly}
use Rattle.ckms_store.proofs.Calls.{own}

pub open_exactly : (error : Fraction) (block : ℕ) (list : List Entry) (lens : List ℕ) → OpenExactly error block list lens
unfolding opened
open_exactly error block list lens =
    let a : Bool = slots_ok (length list) (length lens) in
    let b : Bool = is_error error in
    let c : Bool = size_ok block in
    record {
      slots = first_refused a b (λ e. cc) (λ _ _. neither (not c) (λ e. cc) (λ e. cc));
      epsilon = second_refused a b (λ e. cc) (λ _ _. neither (not c) (λ e. cc) (λ e. cc));
      size = (
        λ e. let t = both_passed a b e (λ z. cc) (λ z. cc) in (t.0, t.1, unmet c t.2 (λ z. cc)),
        λ h. rw (h.0, h.1, h.2),
      );
      opens = (
        λ h. let t = both_passed a b h.1 (λ z. cc) (λ z. cc) in (t.0, t.1, (met c t.2 (λ z. cc)).0),
        λ h. (fresh error block, rw (h.0, h.1, h.2)),
      );
    }

-- every other call: an answer that is neither SLOTS nor DAMAGED is the call's own
pub tested_own : {A : Type 0} (a : Result A Refusal) (s : Store) (list : List Entry) (lens : List ℕ) {v : Result A Refusal} → tested s list lens a ≡ v
    → (Err Slots ≡ v → ⊥) → (Err Damaged ≡ v → ⊥) → Ready s list lens × (a ≡ v)
tested_own a s list lens e m n =
    let t = both_passed (slots_ok (length list) (length lens)) (sound s list lens) e m n in
    (record { allowed = t.0; sound = t.1 }, t.2)

pub check_exactly : (s : Store) (list : List Entry) (lens : List ℕ) → CheckExactly s list lens
unfolding checked compressed len_of empty_of
check_exactly s list lens =
    let p : Bool = slots_ok (length list) (length lens) in
    let q : Bool = sound s list lens in
    record {
      slots = first_refused p q (λ e. cc) (λ _ _ e. cc);
      damaged = second_refused p q (λ e. cc) (λ _ _ e. cc);
      passes = (
        λ e. (tested_own (Ok tt) s list lens e (λ z. cc) (λ z. cc)).0,
        own s list lens (Ok tt),
      );
      compresses =
          λ why. same_refusals (Ok (state_of s s.n (tidy_in s list lens))) p q why (λ e. cc);
      counts = λ why. same_refusals (Ok s.held) p q why (λ e. cc);
      tells = λ why. same_refusals (Ok (eqb s.held 0)) p q why (λ e. cc);
    }

-- inserting
module _ (s : Store) (list : List Entry) (lens : List ℕ) (x : ℕ) where
  abbrev p : Bool
  p = slots_ok (length list) (length lens)

  abbrev q : Bool
  q = sound s list lens

  abbrev c : Bool
  c = leb observations s.n

  abbrev d : Bool
  d = leb (length list) s.held

  abbrev taking : Store
  taking = state_of s (suc s.n) (put_in s list lens x)

  -- what an accepted insert tells
  pub taken_tells : (next : Store) → inserted s list lens x ≡ Ok next → Ready s list lens × (s.n < observations) × (s.held < length list) × (taking ≡ next)
  unfolding inserted
  taken_tells next e =
      let o = tested_own _ s list lens e (λ z. cc) (λ z. cc) in
      let k = passed c o.1 (λ z. cc) in
      let l = passed d k.1 (λ z. cc) in
      (o.0, leb-false observations s.n k.0, leb-false (length list) s.held l.0, cc l.1)

  pub insert_exactly : InsertExactly s list lens x
  unfolding inserted
  insert_exactly = record {
    slots = first_refused p q (λ e. cc) (λ _ _. neither c (λ e. cc) (neither d (λ e. cc) (λ e. cc)));
    damaged = second_refused p q (λ e. cc) (λ _ _. neither c (λ e. cc) (neither d (λ e. cc) (λ e. cc)));
    count = (
      λ e.
          let o = tested_own _ s list lens e (λ z. cc) (λ z. cc) in
          let k = refused c o.1 (neither d (λ z. cc) (λ z. cc)) in
          (o.0, omega (arith, (ruled s list lens o.0).count, leb-true observations s.n k)),
      λ h. own s list lens _ h.0 ∙ rw (le-leb observations s.n (omega arith)),
    );
    full = (
      λ e.
          let o = tested_own _ s list lens e (λ z. cc) (λ z. cc) in
          let k = passed c o.1 (λ z. cc) in
          let l = refused d k.1 (λ z. cc) in
          (o.0, leb-false observations s.n k.0, omega (arith, (ruled s list lens o.0).fits, leb-true (length list) s.held l)),
      λ h. own s list lens _ h.0 ∙ rw (lt-leb observations s.n h.1, le-leb (length list) s.held (omega arith)),
    );
    taken = (
      λ h. let t = taken_tells h.0 h.1 in (t.0, t.1, t.2),
      λ h. (taking, own s list lens _ h.0 ∙ rw (lt-leb observations s.n h.1, lt-leb (length list) s.held h.2)),
    );
  }

-- asking
pub query_exactly : (s : Store) (list : List Entry) (lens : List ℕ) (q : Fraction) → QueryExactly s list lens q
unfolding queried
query_exactly s list lens q =
    let v : Ranked = look_up (scale_of q) (limit_of s.error q s.n) (take s.held list) in
    let a : Bool = slots_ok (length list) (length lens) in
    let b : Bool = sound s list lens in
    let p : Bool = is_phi q in
    let n : Bool = eqb s.n 0 in
    record {
      slots = first_refused a b (λ e. cc) (λ _ _. neither (not p) (λ e. cc) (neither n (λ e. cc) (λ e. cc)));
      damaged = second_refused a b (λ e. cc) (λ _ _. neither (not p) (λ e. cc) (neither n (λ e. cc) (λ e. cc)));
      phi = (
        λ e.
            let o = tested_own _ s list lens e (λ z. cc) (λ z. cc) in
            (o.0, unmet p o.1 (neither n (λ z. cc) (λ z. cc))),
        λ h. own s list lens _ h.0 ∙ rw h.1,
      );
      empty = (
        λ e.
            let o = tested_own _ s list lens e (λ z. cc) (λ z. cc) in
            let k = met p o.1 (λ z. cc) in
            (o.0, k.0, eqb-true s.n 0 (refused n k.1 (λ z. cc))),
        λ h. own s list lens _ h.0 ∙ rw (h.1, eq-eqb s.n 0 h.2),
      );
      given = (
        λ h.
            let o = tested_own _ s list lens h.1 (λ z. cc) (λ z. cc) in
            let k = met p o.1 (λ z. cc) in
            let l = passed n k.1 (λ z. cc) in
            (o.0, k.0, by_order 0 s.n (λ m. m) (λ m. absurd (eqb-false s.n 0 l.0 (omega arith)))),
        λ h. (v, own s list lens _ h.0 ∙ rw (h.1, ne_eqb s.n 0 (λ z. omega arith))),
      );
    }
