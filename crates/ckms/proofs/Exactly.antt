-- Each refusal is given exactly when its test fails and the tests before it pass; and the soundness test is its rules. Assumes nothing.
use mathlib.Core.Path.{◌≡◌, refl, sym, ◌∙◌, subst}
use mathlib.Core.Logic.{◌↔◌}
use Prim.Native.Nat.{ℕ}
use mathlib.Core.Bool.{Bool, true, false, ◌&&◌, and-eq-true_iff}
use mathlib.Core.List.{List}
use native.Mathlib.Omega.{arith}
use borrow.Author.Tests.{leb-true, leb-false, le-leb, lt-leb, ltb-true, lt-ltb, eqb-true, eq-eqb}
use lib.Dec.{T, leb, ltb}
use lib.ListN.{length}
use Rattle.std.specs.Prelude.{Option, Some, None, Result, Ok, Err}
use Rattle.refusal.specs.declared.Refusal.{Refusal}
use Rattle.refusal.specs.declared.Refusal.TheVariants.{Slots, Damaged}
use Rattle.fraction.specs.declared.Fraction.{Fraction}
use Rattle.fraction.specs.Allowed.{is_error}
use Rattle.entries.specs.declared.Entry.{Entry}
use Rattle.entries.proofs.Choose.{by_order}
use Rattle.entries.proofs.Guards.{refused, passed, neither, both_passed, first_refused, second_refused}
use Rattle.mean.specs.declared.Mean.{Mean}
use Rattle.mean.specs.Mean.{finite}
use Rattle.ckms_store_steps.specs.Limits.{observations, slots_ok}
use Rattle.ckms_store_steps.specs.Sound as sounding
use Rattle.ckms_store.proofs.Exactly as store
use Rattle.ckms_store_steps.proofs.Tested.{same_refusals}
use Rattle.ckms_store_steps.proofs.Sounds.{sound_rules, rules_sound}
use Rattle.ckms_steps.specs.declared.CKMS.{CKMS}
use Rattle.ckms_steps.specs.State.{samples, modulus, last_sound, cma_sound, record_sound, sound}
use Rattle.ckms_steps.specs.Steps.{tested, checked, taken_in, state_of, Ready}
use Rattle.ckms_steps.proofs.States.{is_true, true_is}
use Rattle.ckms_steps.proofs.Takes.{sound_parts, store_ready}
use Rattle.ckms_steps.specs.Opening.{fresh, opened}
use Rattle.ckms_told.specs.Answers.{count_of, last_of, cma_of, error_of}
use Rattle.ckms.specs.Answers.{inserted, queried}
use Rattle.ckms.specs.Promises.{SoundExactly}
use Rattle.ckms.specs.Refusals.{OpenExactly, CheckExactly, InsertExactly, QueryExactly}
use Rattle.ckms.proofs.Calls.{own}

pub open_exactly : (error : Fraction) (list : List Entry) (lens : List ℕ) → OpenExactly error list lens
unfolding opened
open_exactly error list lens =
    let a : Bool = slots_ok (length list) (length lens) in
    let b : Bool = is_error error in
    record {
      slots = first_refused a b (λ e. cc) (λ _ _ e. cc);
      epsilon = second_refused a b (λ e. cc) (λ _ _ e. cc);
      opens = (λ h. let t = both_passed a b h.1 (λ z. cc) (λ z. cc) in (t.0, t.1), λ h. (fresh error, rw (h.0, h.1)));
    }

-- every other call: an answer that is neither SLOTS nor DAMAGED is the call's own
tested_own : {A : Type 0} (a : Result A Refusal) (c : CKMS) (list : List Entry) (lens : List ℕ) {v : Result A Refusal} → tested c list lens a ≡ v
    → (Err Slots ≡ v → ⊥) → (Err Damaged ≡ v → ⊥) → Ready c list lens × (a ≡ v)
tested_own a c list lens e m n =
    let t = both_passed (slots_ok (length list) (length lens)) (sound c list lens) e m n in
    (record { allowed = t.0; sound = t.1 }, t.2)

pub check_exactly : (c : CKMS) (list : List Entry) (lens : List ℕ) → CheckExactly c list lens
unfolding checked count_of last_of cma_of error_of
check_exactly c list lens =
    let p : Bool = slots_ok (length list) (length lens) in
    let q : Bool = sound c list lens in
    record {
      slots = first_refused p q (λ e. cc) (λ _ _ e. cc);
      damaged = second_refused p q (λ e. cc) (λ _ _ e. cc);
      passes = (
        λ e. (tested_own (Ok tt) c list lens e (λ z. cc) (λ z. cc)).0,
        own c list lens (Ok tt),
      );
      counts = λ why. same_refusals (Ok c.n) p q why (λ e. cc);
      tells = λ why. same_refusals (Ok c.last_in) p q why (λ e. cc);
      averages = λ why. same_refusals (Ok c.cma) p q why (λ e. cc);
      bounds = λ why. same_refusals (Ok c.error) p q why (λ e. cc);
    }

-- inserting
pub insert_exactly : (c : CKMS) (list : List Entry) (lens : List ℕ) (x : ℕ) → InsertExactly c list lens x
unfolding inserted
insert_exactly c list lens x =
    let a : Bool = slots_ok (length list) (length lens) in
    let b : Bool = sound c list lens in
    let p : Bool = leb observations c.n in
    let q : Bool = leb (length list) c.held in
    record {
      slots = first_refused a b (λ e. cc) (λ _ _. neither p (λ e. cc) (neither q (λ e. cc) (λ e. cc)));
      damaged = second_refused a b (λ e. cc) (λ _ _. neither p (λ e. cc) (neither q (λ e. cc) (λ e. cc)));
      count = (
        λ e.
            let o = tested_own _ c list lens e (λ z. cc) (λ z. cc) in
            let k = refused p o.1 (neither q (λ z. cc) (λ z. cc)) in
            (o.0, omega (arith, (rules c list lens o.0).count, leb-true observations c.n k)),
        λ h. own c list lens _ h.0 ∙ rw (le-leb observations c.n (omega arith)),
      );
      full = (
        λ e.
            let o = tested_own _ c list lens e (λ z. cc) (λ z. cc) in
            let k = passed p o.1 (λ z. cc) in
            let l = refused q k.1 (λ z. cc) in
            (o.0, leb-false observations c.n k.0, omega (arith, (rules c list lens o.0).fits, leb-true (length list) c.held l)),
        λ h. own c list lens _ h.0 ∙ rw (lt-leb observations c.n h.1, le-leb (length list) c.held (omega arith)),
      );
      taken = (
        λ h.
            let o = tested_own _ c list lens h.1 (λ z. cc) (λ z. cc) in
            let k = passed p o.1 (λ z. cc) in
            let l = passed q k.1 (λ z. cc) in
            (o.0, leb-false observations c.n k.0, leb-false (length list) c.held l.0),
        λ h. (
          state_of c (taken_in c list lens x) x,
          own c list lens _ h.0 ∙ rw (lt-leb observations c.n h.1, lt-leb (length list) c.held h.2),
        ),
      );
    }
  where
    rules : (c : CKMS) (list : List Entry) (lens : List ℕ) → Ready c list lens → sounding.Rules (samples c) list lens
    rules c list lens r = sound_rules (samples c) list lens (store_ready c list lens r).sound

-- asking: behind the tests the store's answer, whose own tests pass again
pub query_exactly : (c : CKMS) (list : List Entry) (lens : List ℕ) (q : Fraction) → QueryExactly c list lens q
unfolding queried
query_exactly c list lens q =
    let a : Bool = slots_ok (length list) (length lens) in
    let b : Bool = sound c list lens in
    let s = store.query_exactly (samples c) list lens q in
    record {
      slots = first_refused a b (λ e. cc) (λ p r e. let z : true ≡ false = sym p ∙ s.slots.0 e in cc);
      damaged =
          second_refused a b (λ e. cc)
          (λ p r e. let z : true ≡ false = sym (sound_parts c list lens r).0 ∙ (s.damaged.0 e).1 in cc);
      phi = (
        λ e. let o = tested_own _ c list lens e (λ z. cc) (λ z. cc) in (o.0, (s.phi.0 o.1).1),
        λ h. own c list lens _ h.0 ∙ s.phi.1 (store_ready c list lens h.0, h.1),
      );
      empty = (
        λ e.
            let o = tested_own _ c list lens e (λ z. cc) (λ z. cc) in
            let f = s.empty.0 o.1 in
            (o.0, f.1, f.2),
        λ h. own c list lens _ h.0 ∙ s.empty.1 (store_ready c list lens h.0, h.1, h.2),
      );
      given = (
        λ h.
            let o = tested_own _ c list lens h.1 (λ z. cc) (λ z. cc) in
            let f = s.given.0 (h.0, o.1) in
            (o.0, f.1, f.2),
        λ h.
            let g = s.given.1 (store_ready c list lens h.0, h.1, h.2) in
            (g.0, own c list lens _ h.0 ∙ g.1),
      );
    }

-- the soundness test, rule by rule: something where n is not 0
some : (n : ℕ) → (n ≡ 0 → ⊥) → ltb 0 n ≡ true
some n h = by_order 0 n (λ l. lt-ltb 0 n l) (λ l. absurd (h (omega arith)))

last_rule : (n : ℕ) (l : Option ℕ) → last_sound n l ≡ true ↔ ((l ≡ None) ↔ (n ≡ 0))
last_rule n None = (λ h. (λ _. eqb-true n 0 h, λ _. refl), λ r. eq-eqb n 0 (r.0 refl))
last_rule n (Some v) = (λ h. (λ e. cc, λ z. absurd (let l = ltb-true 0 n h in omega arith)), λ r. some n (λ z. let e = r.1 z in cc))

cma_rule : (n : ℕ) (a : Option Mean) → cma_sound n a ≡ true ↔ (((a ≡ None) ↔ (n ≡ 0)) × ((m : Mean) → a ≡ Some m → T (finite m.value)))
cma_rule n None = (λ h. ((λ _. eqb-true n 0 h, λ _. refl), λ m e. cc), λ r. eq-eqb n 0 (r.0.0 refl))
cma_rule n (Some m) = (
  λ h.
      let p = (and-eq-true_iff (ltb 0 n) (finite m.value)).0 h in
      let l = ltb-true 0 n p.0 in
      ((λ e. cc, λ z. absurd (omega arith)), λ k e. let w : m ≡ k = cc in subst (λ (u : Mean). T (finite u.value)) w (true_is (finite m.value) p.1)),
  λ r. (and-eq-true_iff (ltb 0 n) (finite m.value)).1 (some n (λ z. let e = r.0.1 z in cc), is_true (finite m.value) (r.1 m refl)),
)

pub sound_exactly : SoundExactly
unfolding SoundExactly
sound_exactly c list lens = (
  λ h.
      let a = (and-eq-true_iff (sounding.sound (samples c) list lens) (record_sound c)).0 h in
      let b = (and-eq-true_iff (ltb c.inserts (modulus c.error)) (last_sound c.n c.last_in && cma_sound c.n c.cma)).0 a.1 in
      let d = (and-eq-true_iff (last_sound c.n c.last_in) (cma_sound c.n c.cma)).0 b.1 in
      let m = (cma_rule c.n c.cma).0 d.1 in
      record {
        samples = sound_rules (samples c) list lens a.0;
        counter = ltb-true c.inserts (modulus c.error) b.0;
        last_none = (last_rule c.n c.last_in).0 d.0;
        mean_none = m.0;
        mean_finite = m.1;
      },
  λ r.
      rw (
        rules_sound (samples c) list lens r.samples,
        lt-ltb c.inserts (modulus c.error) r.counter,
        (last_rule c.n c.last_in).1 r.last_none,
      )
      ((cma_rule c.n c.cma).1 (r.mean_none, r.mean_finite)),
)
