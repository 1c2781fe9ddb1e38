-- The two halves of an accepted insert, over a lent list, and the two put together.
-- Assumes nothing.
use mathlib.Core.Path.{◌≡◌, refl, sym, ap, ◌∙◌}
use Prim.Native.Nat.{ℕ, suc, ◌+◌, ◌-◌, ◌%◌, ◌≤◌, ◌<◌}
use mathlib.Core.Logic.{◌⊎◌, inl, inr}
use mathlib.Core.Bool.{true}
use mathlib.Core.List.{List, ◌++◌, map, map-append, append_assoc}
use native.Mathlib.Omega.{arith}
use borrow.Author.Tests.{eq-eqb, ne_eqb}
use lib.ListN.{length, take, drop, replicate, length-map}
use lib.Seq.{length-take-le}
use Rattle.fraction.specs.declared.Fraction.{Fraction}
use Rattle.fraction.specs.Allowed.{is_epsilon, within}
use Rattle.fraction.specs.Products.{p_of, period}
use Rattle.fraction.proofs.Tests.{within_true}
use Rattle.entries.specs.declared.Entry.{Entry}
use Rattle.entries.specs.Entry.{entry, zero_entry, values}
use Rattle.entries.specs.Lists.{put_at, layout}
use Rattle.entries.specs.Place.{place}
use Rattle.entries.proofs.Layouts.{layout_front, layout_room, layout_full, layout_again}
use Rattle.entries.proofs.Maps.{map_take, map_drop, map_put_at}
use Rattle.greenwald_khanna_theory.specs.State.{State, grown, tidied, insert}
use Rattle.greenwald_khanna_theory.specs.Summary.{new_delta, put_in, compress}
use Rattle.greenwald_khanna_rows.specs.Compress.{CompressPost}
use Rattle.greenwald_khanna_steps.specs.declared.Stream.{Stream}
use Rattle.greenwald_khanna_steps.specs.Sound.{state_of}
use Rattle.greenwald_khanna_steps.specs.Steps.{Holds}
use Rattle.greenwald_khanna_steps.proofs.Lengths.{grown_length}

-- the delta of a new entry: at either end, and between
pub delta_end : (p pos held : ℕ) → (pos ≡ 0) ⊎ ((pos ≡ 0 → ⊥) × (pos ≡ held)) → 0 ≡ new_delta p pos held
unfolding new_delta
delta_end p pos held (inl h) = rw (eq-eqb pos 0 h)
delta_end p pos held (inr h) = rw (ne_eqb pos 0 h.0, eq-eqb pos held h.1)

pub delta_between : (p pos held : ℕ) → (pos ≡ 0 → ⊥) → (pos ≡ held → ⊥) → p ≡ new_delta p pos held
unfolding new_delta
delta_between p pos held g h = rw (ne_eqb pos 0 g, ne_eqb pos held h)

-- streams with the same words are the same
stream_eq : {ε : Fraction} {n m held kept : ℕ} → n ≡ m → held ≡ kept
    → (let s : Stream = record { epsilon = ε; n = n; held = held } in s) ≡ record { epsilon = ε; n = m; held = kept }
stream_eq {ε} a b = λ i. record { epsilon = ε; n = a i; held = b i }

grown_count : (ε : Fraction) (s : State) (x : ℕ) → s.n + 1 ≡ (grown ε s x).n
unfolding grown
grown_count ε s x = refl

-- the first half: an entry more, at its place
module _ (st : Stream) (list : List Entry) (v pos delta : ℕ) (after : List Entry) (h : st.held < length list)
    (hp : pos ≡ place v (values (take st.held list))) (hd : delta ≡ new_delta (p_of st.epsilon st.n) pos st.held)
    (ha : after ≡ put_at pos (entry v 1 delta) (take st.held list) ++ drop (suc st.held) list) where
  old-length : length (take st.held list) ≡ st.held
  old-length = length-take-le st.held list (omega arith)

  abbrev more : State
  more = grown st.epsilon (state_of st list) v

  more-is : more.entries ≡ put_at pos (entry v 1 delta) (take st.held list)
  unfolding grown put_in
  more-is = rw (← hp, old-length, ← hd)

  pub grown_holds : Holds st.epsilon more (suc st.held) list (record { epsilon = st.epsilon; n = st.n + 1; held = st.held + 1 }) after
  grown_holds =
      let size : length more.entries ≡ suc st.held = omega (arith, grown_length st.epsilon (state_of st list) v, old-length) in
      record {
        stream = stream_eq (grown_count st.epsilon (state_of st list) v) (omega arith);
        entries = ha ∙ rw (← more-is) (layout_full zero_entry more.entries (suc st.held) list size);
      }

-- the same over the places of a lent list, where x holds the new entry
pub grown_places : {A : Type 0} (f : A → Entry) (st : Stream) (list : List A) (v pos delta : ℕ) (x : A) (after : List A) → st.held < length list
    → pos ≡ place v (values (map f (take st.held list))) → delta ≡ new_delta (p_of st.epsilon st.n) pos st.held → f x ≡ entry v 1 delta
    → after ≡ put_at pos x (take st.held list) ++ drop (suc st.held) list
    → Holds st.epsilon (grown st.epsilon (state_of st (map f list)) v) (suc st.held) (map f list) (record { epsilon = st.epsilon; n = st.n + 1; held = st.held + 1 }) (map f after)
grown_places f st list v pos delta x after h hp hd hx ha =
    grown_holds st (map f list) v pos delta (map f after) (omega (arith, length-map list f))
    (hp ∙ ap (λ (es : List Entry). place v (values es)) (map_take f st.held list)) hd
    (ap (map f) ha
    ∙ map-append f (put_at pos x (take st.held list)) (drop (suc st.held) list)
    ∙ rw (map_put_at f pos x (take st.held list), hx, map_take f st.held list, map_drop f (suc st.held) list))

-- the second half: the entries compressed, in the part of a lent list that holds them
module _ {A : Type 0} (f : A → Entry) (st : Stream) (list part : List A) (p r : ℕ) (he : is_epsilon st.epsilon ≡ true) (hh : st.held ≤ length list)
    (hp : p ≡ within (is_epsilon st.epsilon) (p_of st.epsilon st.n)) (hc : CompressPost p (map f (take st.held list)) r (map f part)) where
  abbrev less : State
  less = tidied st.epsilon (state_of st (map f list))

  less-is : compress p (map f (take st.held list)) ≡ less.entries
  unfolding tidied
  less-is = rw (hp ∙ within_true (p_of st.epsilon st.n) he, map_take f st.held list)

  tidied-count : st.n ≡ less.n
  unfolding tidied
  tidied-count = refl

  -- the part put back leaves the places behind it as they were
  put_back : map f (part ++ drop st.held list) ≡ layout zero_entry less.entries st.held (map f list)
  put_back =
      let long : length (map f (take st.held list)) ≡ st.held = length-map (take st.held list) f ∙ length-take-le st.held list hh in
      map-append f part (drop st.held list)
      ∙ rw (hc.list, long, less-is, map_drop f st.held list)
      (append_assoc less.entries (replicate (st.held - length less.entries) zero_entry) (drop st.held (map f list)))

  pub tidied_holds : Holds st.epsilon less st.held (map f list) (record { epsilon = st.epsilon; n = st.n; held = r }) (map f (part ++ drop st.held list))
  tidied_holds = record { stream = stream_eq tidied-count (hc.count ∙ ap length less-is); entries = put_back }

-- the two halves of an insert
module _ (st : Stream) (before : List Entry) (v : ℕ) (h : st.held < length before) where
  abbrev now : State
  now = state_of st before

  first-length : length (grown st.epsilon now v).entries ≡ suc st.held
  first-length = omega (arith, grown_length st.epsilon now v, length-take-le st.held before (omega arith))

  -- not yet time to compress: the first half is all
  pub insert_grown : (mid : Stream) (list : List Entry) → Holds st.epsilon (grown st.epsilon now v) (suc st.held) before mid list
      → (mid.n % period st.epsilon ≡ 0 → ⊥) → Holds st.epsilon (insert st.epsilon now v) (suc st.held) before mid list
  unfolding insert
  insert_grown mid list g t =
      let n : mid.n ≡ st.n + 1 = ap (λ (s : Stream). s.n) g.stream ∙ sym (grown_count st.epsilon now v) in
      let no = ne_eqb ((st.n + 1) % period st.epsilon) 0 (λ z. t (rw n z)) in
      rw no g

  -- time to compress
  pub insert_tidied : (mid : Stream) (list : List Entry) → Holds st.epsilon (grown st.epsilon now v) (suc st.held) before mid list
      → mid.n % period st.epsilon ≡ 0
      → (last : Stream) (left : List Entry) → Holds mid.epsilon (tidied mid.epsilon (state_of mid list)) mid.held list last left
      → Holds st.epsilon (insert st.epsilon now v) (suc st.held) before last left
  unfolding insert
  insert_tidied mid list g t last left k =
      let ε : Fraction = st.epsilon in
      let more : State = grown ε now v in
      let n : mid.n ≡ st.n + 1 = ap (λ (s : Stream). s.n) g.stream ∙ sym (grown_count ε now v) in
      let yes = eq-eqb ((st.n + 1) % period ε) 0 (rw n at t) in
      let e : mid.epsilon ≡ ε = ap (λ (s : Stream). s.epsilon) g.stream in
      let held : mid.held ≡ suc st.held = ap (λ (s : Stream). s.held) g.stream ∙ first-length in
      let state : state_of mid list ≡ more =
      rw (g.stream, g.entries) (ap (λ (es : List Entry). let s : State = record { n = more.n; entries = es } in s) (layout_front zero_entry more.entries (suc st.held) before)) in
      let k2 : Holds ε (tidied ε more) (suc st.held) list last left = rw (e, state, held) at k in
      rw yes (record {
        stream = k2.stream;
        entries =
            k2.entries
            ∙ rw g.entries
            (layout_again zero_entry more.entries (suc st.held) before (omega (arith, first-length)) (tidied ε more).entries
            (suc st.held) refl);
      })

-- between the halves the stream may be compressed
pub grown_fits : (st : Stream) (before : List Entry) (v : ℕ) (mid : Stream) (left : List Entry) → is_epsilon st.epsilon ≡ true
    → Holds st.epsilon (grown st.epsilon (state_of st before) v) (suc st.held) before mid left
    → (is_epsilon mid.epsilon ≡ true) × (mid.held ≤ length left)
grown_fits st before v mid left a g =
    let more : State = grown st.epsilon (state_of st before) v in
    let e : mid.epsilon ≡ st.epsilon = ap (λ (s : Stream). s.epsilon) g.stream in
    let held : mid.held ≡ length more.entries = ap (λ (s : Stream). s.held) g.stream in (
      ap is_epsilon e ∙ a,
      omega (arith, ap length g.entries, layout_room zero_entry more.entries (suc st.held) before),
    )
