-- The rules of a sound stream as facts. That held is 0 exactly when n is follows from the others.
-- Assumes nothing.
use mathlib.Core.Path.{◌≡◌, refl, sym, ◌∙◌}
use Prim.Native.Nat.{ℕ, ◌+◌, ◌≤◌, ◌<◌}
use mathlib.Core.Logic.{◌⊎◌, inl, inr}
use mathlib.Core.Bool.{Bool, true, false, beq, ◌&&◌, and-eq-true_iff}
use mathlib.Core.List.{List, [], ◌∷◌, map}
use native.Mathlib.Omega.{arith}
use borrow.Author.Tests.{leb-true, le-leb, lt-leb, eq-eqb, ne_eqb}
use lib.Dec.{leb, eqb}
use lib.ListN.{length, take, length-map}
use lib.Seq.{length-take-le}
use Rattle.fraction.specs.Allowed.{is_epsilon, within}
use Rattle.fraction.specs.Products.{p_of}
use Rattle.fraction.proofs.Tests.{within_true}
use Rattle.entries.specs.declared.Entry.{Entry}
use Rattle.entries.specs.Entry.{values, sum_g}
use Rattle.entries.specs.Ranks.{Rising}
use Rattle.entries.proofs.Guards.{both}
use Rattle.entries.proofs.Maps.{map_take}
use Rattle.greenwald_khanna_theory.specs.Promises.{Sound, HeldWithin}
use Rattle.greenwald_khanna_theory.specs.Sound.{sound_entries}
use Rattle.greenwald_khanna_theory.proofs.Explaining.{held_within}
use Rattle.greenwald_khanna_theory.proofs.Rules.{entries_true}
use Rattle.greenwald_khanna_steps.specs.declared.Stream.{Stream}
use Rattle.greenwald_khanna_steps.specs.Limits.{slots, observations, slots_ok}
use Rattle.greenwald_khanna_steps.specs.Sound.{sound, state_of}
use Rattle.greenwald_khanna_steps.specs.Steps.{Accepts}

-- entries that are sound are none exactly when n is 0: each g is at least 1, and their sum is n
none_together : (p n : ℕ) (es : List Entry) → sound_entries p n es ≡ true → beq (eqb (length es) 0) (eqb n 0) ≡ true
none_together p n [] h = let t : 0 ≡ n = (entries_true p n [] h).total in simp (eq-eqb n 0 (sym t))
none_together p n (e ∷ es) h =
    let k = entries_true p n (e ∷ es) h in
    let t : e.g + sum_g es ≡ n = k.total in
    rw (ne_eqb (length (e ∷ es)) 0 (λ z. omega arith), ne_eqb n 0 (λ z. omega arith))

-- so that rule adds nothing to the others
absorbed : (a b : Bool) → (b ≡ true → a ≡ true) → a && b ≡ b
absorbed a true h = (and-eq-true_iff a true).1 (h refl, refl)
absorbed true false h = refl
absorbed false false h = refl

module _ (st : Stream) (list : List Entry) where
  -- the entries' part of the test
  abbrev pub entries_sound : Bool
  entries_sound = sound_entries (p_of st.epsilon st.n) st.n (take st.held list)

  pub sound_is : is_epsilon st.epsilon ≡ true → st.n ≤ observations → st.held ≤ length list → sound st list ≡ entries_sound
  unfolding sound
  sound_is a b c =
      rw (a, le-leb st.n observations b, le-leb st.held (length list) c)
      (absorbed (beq (eqb st.held 0) (eqb st.n 0)) entries_sound
      (λ h. rw (length-take-le st.held list c) at (none_together (p_of st.epsilon st.n) st.n (take st.held list) h)))

-- a test that fails, as the code makes it: t is the test of ε, and `many` the number of rows
pub broken : (st : Stream) (list : List Entry) (t : Bool) (many : ℕ) → t ≡ is_epsilon st.epsilon → many ≡ length list
    → (t ≡ false) ⊎ (((t ≡ true) × (observations < st.n)) ⊎ ((t ≡ true) × (st.n ≤ observations) × (many < st.held)))
    → false ≡ sound st list
unfolding sound
broken st list t many p q (inl h) = rw (← p, h)
broken st list t many p q (inr (inl h)) = rw (← p, h.0, lt-leb st.n observations h.1)
broken st list t many p q (inr (inr h)) = rw (← p, h.0, le-leb st.n observations h.1, ← q, lt-leb st.held many h.2)

-- the last test, as the code makes it over the places of a lent list
pub sound_tested : {A : Type 0} (entry : A → Entry) (st : Stream) (list : List A) (p : ℕ) (r : Bool) → is_epsilon st.epsilon ≡ true → st.n ≤ observations
    → st.held ≤ length list → p ≡ within (is_epsilon st.epsilon) (p_of st.epsilon st.n) → r ≡ sound_entries p st.n (map entry (take st.held list))
    → r ≡ sound st (map entry list)
sound_tested entry st list p r a b c hp hr =
    let q : p ≡ p_of st.epsilon st.n = hp ∙ within_true (p_of st.epsilon st.n) a in
    hr
    ∙ rw (q, map_take entry st.held list)
    (sym (sound_is st (map entry list) a b (omega (arith, length-map list entry))))

-- the rules, but the one that follows
pub record Facts (st : Stream) (list : List Entry) : Type 0 where
  pub epsilon : is_epsilon st.epsilon ≡ true
  pub count : st.n ≤ observations
  pub room : st.held ≤ length list
  pub entries : Sound st.epsilon (state_of st list)

pub sound_facts : (st : Stream) (list : List Entry) → sound st list ≡ true → Facts st list
unfolding sound
sound_facts st list h =
    let together : Bool = beq (eqb st.held 0) (eqb st.n 0) in
    let a = both (is_epsilon st.epsilon) (leb st.n observations && (leb st.held (length list) && (together && entries_sound st list))) h in
    let b = both (leb st.n observations) (leb st.held (length list) && (together && entries_sound st list)) a.1 in
    let c = both (leb st.held (length list)) (together && entries_sound st list) b.1 in
    record {
      epsilon = a.0;
      count = leb-true st.n observations b.0;
      room = leb-true st.held (length list) c.0;
      entries = (both together (entries_sound st list) c.1).1;
    }

pub facts_sound : (st : Stream) (list : List Entry) → Facts st list → sound st list ≡ true
facts_sound st list f = sound_is st list f.epsilon f.count f.room ∙ f.entries

-- how many slots may be lent
pub slots_within : (many : ℕ) → slots_ok many ≡ true → (1 ≤ many) × (many ≤ slots)
slots_within many e = let b = both (leb 1 many) (leb many slots) e in (leb-true 1 many b.0, leb-true many slots b.1)

-- what is known of a lent list, by its entries
module _ {A : Type 0} (entry : A → Entry) (st : Stream) (list : List A) where
  -- the values of the held entries never fall
  pub held_rising : Accepts st (map entry list) → Rising 0 (values (map entry (take st.held list)))
  held_rising a =
      let f : Facts st (map entry list) = sound_facts st (map entry list) a.unharmed in
      rw (map_take entry st.held list) (entries_true (p_of st.epsilon st.n) st.n (take st.held (map entry list)) f.entries).sorted

  -- where an insert is accepted, there is room, and not too much
  pub accepts_room : Accepts st (map entry list) → (st.held < length list) × (length list ≤ slots)
  accepts_room a =
      (omega (arith, a.room, length-map list entry), omega (arith, (slots_within (length (map entry list)) a.slots).1, length-map list entry))

  -- no more is held than was lent
  pub sound_room : sound st (map entry list) ≡ true → st.held ≤ length list
  sound_room h = omega (arith, (sound_facts st (map entry list) h).room, length-map list entry)

-- the g of the held entries add up to n
pub sums_to_n : (st : Stream) (list : List Entry) → sound st list ≡ true → (sum_g (take st.held list) ≡ st.n) × (st.held ≤ st.n)
unfolding HeldWithin
sums_to_n st list h =
    let f : Facts st list = sound_facts st list h in
    let k = held_within st.epsilon (state_of st list) f.entries in
    (k.0, omega (arith, k.1, length-take-le st.held list f.room))

-- with no entry held, nothing was accepted
pub held_none : (st : Stream) (list : List Entry) → sound st list ≡ true → st.held < 1 → st.n ≡ 0
held_none st list h z =
    let zero : st.held ≡ 0 = omega arith in
    let k : sum_g (take st.held list) ≡ st.n = (sums_to_n st list h).0 in
    sym (rw zero at k)
