-- The answers of insert and query, and the lists that they leave, from the tests and steps behind them. Assumes nothing.
use mathlib.Core.Path.{◌≡◌, refl, sym, ap, ◌∙◌}
use Prim.Native.Nat.{ℕ, ◌≤◌, ◌<◌}
use mathlib.Core.Bool.{true, false}
use mathlib.Core.List.{List}
use lib.ListN.{length}
use Rattle.std.specs.Prelude.{Result, Ok, Err}
use borrow.Author.Tests.{le-leb, lt-leb}
use Rattle.refusal.specs.declared.Refusal.{Refusal}
use Rattle.refusal.specs.declared.Refusal.TheVariants.{Damaged, Count, Full}
use Rattle.fraction.specs.declared.Fraction.{Fraction}
use Rattle.entries.specs.declared.Entry.{Entry}
use Rattle.ckms_theory.specs.declared.Ranked.{Ranked}
use Rattle.ckms_store_steps.specs.declared.Store.{Store}
use Rattle.ckms_store_steps.specs.Answers as answers-steps
use Rattle.ckms_store.specs.Answers as answers
use Rattle.ckms_store_steps.specs.Limits.{observations, slots_ok}
use Rattle.ckms_store_steps.specs.Sound as sounding
use Rattle.ckms_steps.specs.declared.CKMS.{CKMS}
use Rattle.ckms_steps.specs.State.{samples, record_sound}
use Rattle.ckms_steps.specs.Steps.{tested, checked, taken_in, state_of, Ready, TakePost}
use Rattle.ckms.specs.Answers.{inserted, queried}
use Rattle.ckms.specs.Posts.{InsertPost}
use Rattle.ckms_store_steps.proofs.Tested.{answer_of}
use Rattle.ckms_told.proofs.Tests.{refused}
use Rattle.ckms.proofs.Tests.{by_store, by_unsound}

module _ (c : CKMS) (list : List Entry) (lens : List ℕ) where
  -- where the tests pass, a call goes on to its own answer
  pub own : {A : Type 0} (x : Result A Refusal) → Ready c list lens → tested c list lens x ≡ x
  own x r = rw (r.allowed, r.sound)

  module _ (x : ℕ) where
    -- a refused insert leaves both lists as they were
    insert_refused : (r : Result CKMS Refusal) (why : Refusal) → r ≡ Err why → r ≡ inserted c list lens x → InsertPost c list lens x r list lens
    insert_refused r why p e =
        let o : inserted c list lens x ≡ Err why = sym e ∙ p in
        record { answered = e; entries = rw o; blocks = rw o; kept = λ next q. cc; ranged = λ next q. cc }

    pub insert_untested : (r : Result CKMS Refusal) (why : Refusal) → r ≡ Err why → Err why ≡ checked c list lens → InsertPost c list lens x r list lens
    unfolding inserted
    insert_untested r why p e = insert_refused r why p (refused c list lens _ r why p e)

    module _ (r : Ready c list lens) where
      pub insert_count : observations ≤ c.n → InsertPost c list lens x (Err Count) list lens
      unfolding inserted
      insert_count h = insert_refused (Err Count) Count refl (sym (own _ r ∙ rw (le-leb observations c.n h)))

      module _ (l : c.n < observations) where
        pub insert_full : length list ≤ c.held → InsertPost c list lens x (Err Full) list lens
        unfolding inserted
        insert_full h = insert_refused (Err Full) Full refl (sym (own _ r ∙ rw (lt-leb observations c.n l, le-leb (length list) c.held h)))

        pub insert_taken : c.held < length list → (after : CKMS) (list' : List Entry) (lens' : List ℕ) → TakePost c list lens x after list' lens' → InsertPost c list lens x (Ok after) list' lens'
        unfolding inserted
        insert_taken h after list' lens' p =
            let e : inserted c list lens x ≡ Ok (state_of c (taken_in c list lens x) x) = own _ r ∙ rw (lt-leb observations c.n l, lt-leb (length list) c.held h) in
            record {
              answered = ap (λ (t : CKMS). Ok t) p.state ∙ sym e;
              entries = rw e p.entries;
              blocks = rw e p.blocks;
              kept = λ next q. let w : after ≡ next = cc in rw (sym w) p.kept;
              ranged = λ next q. let w : after ≡ next = cc in rw (sym w) p.ranged;
            }

-- a query: where the rest of the state is sound the store decides, else DAMAGED behind the store's refusals
module _ (c : CKMS) (list : List Entry) (lens : List ℕ) (q : Fraction) (s : Store) (is : s ≡ samples c) where
  pub query_store : (r : Result Ranked Refusal) → record_sound c ≡ true → r ≡ answers.queried s list lens q → r ≡ queried c list lens q
  unfolding queried answers.queried
  query_store r h e =
      e ∙ ap (λ u. answers.queried u list lens q) is
      ∙ sym (by_store _ (slots_ok (length list) (length lens)) (sounding.sound (samples c) list lens) (record_sound c) h)

  pub query_refused : (l : Result (Unit {0}) Refusal) → record_sound c ≡ false → l ≡ answers-steps.checked s list lens → answer_of (Err Damaged) l ≡ queried c list lens q
  unfolding queried answers-steps.checked
  query_refused l r e =
      ap (answer_of (Err Damaged)) (e ∙ ap (λ u. answers-steps.checked u list lens) is)
      ∙ sym (by_unsound _ (slots_ok (length list) (length lens)) (sounding.sound (samples c) list lens) (record_sound c) r)
