-- The tests of every call, and the answers and lists that follow from them. Assumes nothing.
use mathlib.Core.Path.{◌≡◌, refl, sym, ap, ◌∙◌}
use mathlib.Core.Bool.{true, false}
use mathlib.Core.List.{List}
use Prim.Native.Nat.{ℕ, suc, ◌≤◌, ◌<◌}
use native.Mathlib.Omega.{arith}
use borrow.Author.Tests.{le-leb, lt-leb, eq-eqb, ne_eqb}
use lib.ListN.{length, take}
use Rattle.std.specs.Prelude.{Result, Ok, Err}
use Rattle.refusal.specs.declared.Refusal.{Refusal}
use Rattle.refusal.specs.declared.Refusal.TheVariants.{Count, Full, Phi, Empty}
use Rattle.fraction.specs.declared.Fraction.{Fraction}
use Rattle.fraction.specs.Allowed.{is_phi}
use Rattle.entries.specs.declared.Entry.{Entry}
use Rattle.entries.proofs.Choose.{by_order}
use Rattle.ckms_theory.specs.declared.Ranked.{Ranked}
use Rattle.ckms_theory.specs.Walk.{look_up}
use Rattle.ckms_store_steps.specs.declared.Store.{Store}
use Rattle.ckms_store_steps.specs.Answers.{tested, checked, state_of}
use Rattle.ckms_store_steps.specs.Limits.{observations, slots_ok}
use Rattle.ckms_store_steps.specs.Sound.{sound}
use Rattle.ckms_store_steps.proofs.Tested.{answer_of, by_check, check_passed}
use Rattle.ckms_store_work.proofs.Works.{ruled, slots_are}
use Rattle.ckms_store_work.specs.Changes.{put_in, tidy_in}
use Rattle.ckms_store_look.specs.Query.{scale_of, limit_of, Asking}
use Rattle.ckms_store_work.specs.Steps.{Ready, PutPost, TidyPost}
use Rattle.ckms_store.specs.Answers.{inserted, compressed, queried}
use Rattle.ckms_store.specs.Posts.{InsertPost, CompressPost}

module _ (s : Store) (list : List Entry) (lens : List ℕ) where
  -- a refusal of the tests, passed on by a call, is its answer
  pub refused : {A : Type 0} (a r : Result A Refusal) (why : Refusal) → r ≡ Err why → Err why ≡ checked s list lens → r ≡ tested s list lens a
  unfolding checked
  refused a r why p e = p ∙ ap (answer_of a) e ∙ sym (by_check a (slots_ok (length list) (length lens)) (sound s list lens))

  -- where they pass, each call goes on to its own answer
  pub passed : Ok tt ≡ checked s list lens → Ready s list lens
  unfolding checked
  passed e = let t = check_passed (slots_ok (length list) (length lens)) (sound s list lens) (sym e) in record { allowed = t.0; sound = t.1 }

  pub own : {A : Type 0} (a : Result A Refusal) → Ready s list lens → tested s list lens a ≡ a
  own a r = rw (r.allowed, r.sound)

  module _ (x : ℕ) where
    -- a refused insert leaves both lists as they were
    pub insert_refused : (r : Result Store Refusal) (why : Refusal) → r ≡ Err why → r ≡ inserted s list lens x → InsertPost s list lens x r list lens
    insert_refused r why p e =
        let o : inserted s list lens x ≡ Err why = sym e ∙ p in
        record { answered = e; entries = rw o; blocks = rw o; kept = λ next q. cc }

    pub insert_untested : (r : Result Store Refusal) (why : Refusal) → r ≡ Err why → Err why ≡ checked s list lens → InsertPost s list lens x r list lens
    unfolding inserted
    insert_untested r why p e = insert_refused r why p (refused _ r why p e)

    module _ (r : Ready s list lens) where
      pub insert_count : observations ≤ s.n → InsertPost s list lens x (Err Count) list lens
      unfolding inserted
      insert_count h = insert_refused (Err Count) Count refl (sym (own _ r ∙ rw (le-leb observations s.n h)))

      module _ (l : s.n < observations) where
        pub insert_full : length list ≤ s.held → InsertPost s list lens x (Err Full) list lens
        unfolding inserted
        insert_full h = insert_refused (Err Full) Full refl (sym (own _ r ∙ rw (lt-leb observations s.n l, le-leb (length list) s.held h)))

        pub insert_taken : s.held < length list → (after : Store) (list' : List Entry) (lens' : List ℕ) → PutPost s list lens x after list' lens' → InsertPost s list lens x (Ok after) list' lens'
        unfolding inserted
        insert_taken h after list' lens' p =
            let e : inserted s list lens x ≡ Ok (state_of s (suc s.n) (put_in s list lens x)) = own _ r ∙ rw (lt-leb observations s.n l, lt-leb (length list) s.held h) in
            record {
              answered = ap (λ (t : Store). Ok t) p.state ∙ sym e;
              entries = rw e p.entries;
              blocks = rw e p.blocks;
              kept = λ next q. let w : after ≡ next = cc in rw (sym w) p.kept;
            }

  pub compress_untested : (r : Result Store Refusal) (why : Refusal) → r ≡ Err why → Err why ≡ checked s list lens → CompressPost s list lens r list lens
  unfolding compressed
  compress_untested r why p e =
      let c : r ≡ compressed s list lens = refused _ r why p e in
      let o : compressed s list lens ≡ Err why = sym c ∙ p in
      record { answered = c; entries = rw o; blocks = rw o; kept = λ next q. cc }

  pub compress_done : Ready s list lens → (after : Store) (list' : List Entry) (lens' : List ℕ) → TidyPost s list lens after list' lens' → CompressPost s list lens (Ok after) list' lens'
  unfolding compressed
  compress_done r after list' lens' p =
      let e : compressed s list lens ≡ Ok (state_of s s.n (tidy_in s list lens)) = own _ r in
      record {
        answered = ap (λ (t : Store). Ok t) p.state ∙ sym e;
        entries = rw e p.entries;
        blocks = rw e p.blocks;
        kept = λ next q. let w : after ≡ next = cc in rw (sym w) p.kept;
      }

  -- a query
  module _ (q : Fraction) (r : Ready s list lens) where
    pub query_phi : is_phi q ≡ false → Err Phi ≡ queried s list lens q
    unfolding queried
    query_phi h = sym (own _ r ∙ rw h)

    module _ (h : is_phi q ≡ true) where
      pub query_empty : s.n ≡ 0 → Err Empty ≡ queried s list lens q
      unfolding queried
      query_empty e = sym (own _ r ∙ rw (h, eq-eqb s.n 0 e))

      module _ (n : s.n ≡ 0 → ⊥) where
        pub query_given : (a : Ranked) → a ≡ look_up (scale_of q) (limit_of s.error q s.n) (take s.held list) → Ok a ≡ queried s list lens q
        unfolding queried
        query_given a e = ap (λ (t : Ranked). Ok t) e ∙ sym (own _ r ∙ rw (h, ne_eqb s.n 0 n))

        pub asking : Asking s list q
        asking =
            let f = ruled s list lens r in
            record {
              error = f.error;
              phi = h;
              count = f.count;
              some = by_order s.held 1 (λ l. absurd (n (f.empty.0 (omega arith)))) (λ l. l);
              fits = f.fits;
              few = (slots_are s list lens r).1;
              summed = f.summed;
            }
