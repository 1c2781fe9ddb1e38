-- A scan's inserts, from the first, one by one, to the end. Assumes nothing.
use Rattle.std.specs.Prelude.{Option, Some, None, Result, Ok, Err}
use mathlib.Core.Path.{◌≡◌, ap}
use mathlib.Core.List.{List}
use Prim.Native.Nat.{ℕ, suc, ◌+◌, ◌-◌, ◌≤◌, ◌<◌}
use native.Mathlib.Numerals.{add-one}
use native.Mathlib.Omega.{arith}
use Rattle.refusal.specs.declared.Refusal.{Refusal}
use Rattle.refusal.specs.Number.{number_of, number_in}
use Rattle.entries.specs.declared.Entry.{Entry}
use Rattle.greenwald_khanna_steps.specs.declared.Stream.{Stream}
use Rattle.greenwald_khanna.specs.Posts.{InsertPost}
use Rattle.scan_file.specs.Words.{each}
use Rattle.scan_insert.specs.Inserts.{End, ended, onward, insert_all, RanPost}

-- what is left to insert when i are in
module _ (at : ℕ → ℕ) (n i : ℕ) (end : End) (st : Stream) (list : List Entry) (e : insert_all st list (each at i (n - i)) ≡ end) where
  at-end : {refused : Option ℕ} {st : Stream} {list : List Entry} → ended st refused list ≡ end → RanPost end (ended st refused list).ran list
  at-end p = record { answered = ap (λ (x : End). x.ran) p; left = ap (λ (x : End). x.list) p }

  pub ran_done : n ≤ i → RanPost end (ended st None list).ran list
  unfolding insert_all each
  ran_done h =
      let z : n - i ≡ 0 = omega arith in
      let done : ended st None list ≡ end = rw z at e in
      at-end done

  module _ (h : i < n) (answer : Result Stream Refusal) (left : List Entry) (p : InsertPost st list (at i) answer left) where
    next-is : onward answer st left (λ next. insert_all next left (each at (suc i) (n - suc i))) ≡ end
    unfolding insert_all each
    next-is =
        let z : n - i ≡ suc (n - suc i) = omega arith in
        rw (p.answered, p.left) (rw z at e)

    pub ran_on : (next : Stream) → answer ≡ Ok next → insert_all next left (each at (i + 1) (n - (i + 1))) ≡ end
    ran_on next t = rw add-one (rw t at next-is)

    pub ran_stopped : (why : Refusal) (r : ℕ) → answer ≡ Err why → r ≡ number_in answer → RanPost end (ended st (Some r) left).ran left
    ran_stopped why r t q =
        let done : ended st (Some (number_of why)) left ≡ end = rw t at next-is in
        let same : r ≡ number_of why = rw t at q in
        rw same (at-end done)
