-- One step of the running mean, s + (v - s) / n: it is finite for every finite s, and with 0 ≤ s it is at most the larger of s and v. Assumes nothing.
use mathlib.Core.Path.{◌≡◌, refl, sym, ap, ◌∙◌, subst}
use Prim.Native.Nat.{ℕ, suc, ◌+◌, ◌-◌, ◌*◌, ◌^◌, ◌≤◌, ◌<◌}
use native.Mathlib.Nat.{le_trans, le_of_eq, le_of_lt, lt_of_le_of_lt, not-le_of_lt, sub-le, mul-one, mul_assoc, mul_right_comm, mul-le-mul, mul-le-mul_right, add-le-add, lt_of_mul-lt-mul_right, le_of_mul-le-mul_right, add-mul}
use native.Mathlib.Omega.{arith}
use mathlib.Core.Bool.{Bool, true, false, not, ◌&&◌, cond, true≢false}
use lib.IntN.{pos}
use lib.Dec.{T, ltb, leb, ltb→lt, lt→ltb, nltb→le, leb→le, le→leb, nleb→lt, lit≤}
use lib.Pow.{pow_pos, pow-add, pow_mono, le_ones}
use lib.Ieee.{Float, nan, inf, fin, Format, binary64, prec, low, up, down, odd, units, round, sum, add, sub, div, of_int, fits, le}
use lib.Ieee.Digits.{back}
use lib.Ieee.Fits.{round_is, of_int-fits, down_pos}
use lib.Ieee.Exact.{HasValue, odd_sign}
use lib.Ieee.Back.{round_whole}
use lib.Ieee.Order.{round_mono, drop, kept}
use lib.Ieee.Scale as scale
use lib.Ieee.Scale.{grid, overflow, round_under}
use Rattle.mean.specs.Mean.{finite, float, in_range}
use Rattle.mean.proofs.Rounded.{Rep, Is, Most, made, cap_grid, cap_units, half, quotient, add_units, sub_units, div_units, rep_of, units_of}

-- ---- `sum` of two signs
over : (f : Format) (a b c : ℕ) → a < b → sum f false a true b c ≡ round f true (b - a) c
unfolding sum
over f a b c h = go (ltb a b) (lt→ltb a b h)
  where
    go : (t : Bool) → T t → cond t (round f true (b - a) c) (round f false (a - b) c) ≡ round f true (b - a) c
    go true k = refl
    go false k = absurd k

under : (f : Format) (a b c : ℕ) → b ≤ a → sum f false a true b c ≡ round f false (a - b) c
unfolding sum
under f a b c h = go (ltb a b) (ltb→lt a b)
  where
    go : (t : Bool) → (T t → a < b) → cond t (round f true (b - a) c) (round f false (a - b) c) ≡ round f false (a - b) c
    go true k = absurd (not-le_of_lt (k tt) h)
    go false k = refl

alike : (f : Format) (a b c : ℕ) → sum f false a false b c ≡ round f false (a + b) c
unfolding sum
alike f a b c = refl

is_finite : (f : Format) (x : Float) (s : Bool) (X : ℕ) → Is f x s X → T (finite x)
is_finite f nan s X h = absurd h.value
is_finite f (inf t) s X h = absurd h.value
is_finite f (fin t m e) s X h = tt

-- ---- the three cases, with x of X units, y of W units, and z the whole number n
module _ (f : Format) (x y z : Float) (X W n : ℕ) (hy : HasValue y false W (2 ^ low f)) (hz : HasValue z false n 1) (rx : Rep f X) (rv : Rep f W) (n_pos : 0 < n) where
  abbrev L : ℕ
  L = 2 ^ low f

  -- (y - x) / z, where y - x is N units with the sign s before it is rounded: no more than y - x rounded
  quot : (s : Bool) (N : ℕ) → sub f y x ≡ round f s N L → grid f N L < overflow f → Most f (div f (sub f y x) z) s (grid f N L)
  quot s N e G =
      let d = made f s N L G in
      subst (λ (r : Float). Most f r s (grid f N L)) (sym (ap (λ (r : Float). div f r z) e ∙ div_units f (round f s N L) z s (grid f N L) n d.value hz n_pos)) (quotient f s (grid f N L) n d.rep n_pos)

  -- x falls towards a smaller y: no more than x
  pub falls : HasValue x false X (2 ^ low f) → W < X → Most f (add f x (div f (sub f y x) z)) false X
  falls hx h =
      let N = X - W in
      let q = div f (sub f y x) z in
      let g : grid f N L ≤ X = cap_grid f N L X (pow_pos (low f)) rx (mul-le-mul_right L (sub-le X W)) in
      let Q = quot true N (sub_units f y x false W false X hy hx ∙ over f W X L h) (lt_of_le_of_lt g rx.under) in
      subst (λ (r : Float). Most f r false X) (sym (add_units f x q false X true Q.0 hx Q.1.value ∙ under f X Q.0 L (le_trans Q.2 g)))
      (cap_units f false (X - Q.0) X rx (sub-le X Q.0))

  -- x rises towards a larger y: y - x is W - X units, rounded down or up
  gap : HasValue x false X (2 ^ low f) → X ≤ W → sub f y x ≡ round f false (W - X) L
  gap hx h = sub_units f y x false W false X hy hx ∙ under f W X L h

  gap-le : grid f (W - X) L ≤ W
  gap-le = cap_grid f (W - X) L W (pow_pos (low f)) rv (mul-le-mul_right L (sub-le W X))

  risen : (B Q : ℕ) → Rep f B → HasValue x false X (2 ^ low f) → Is f (div f (sub f y x) z) false Q → X + Q ≤ B → Most f (add f x (div f (sub f y x) z)) false B
  risen B Q rb hx hq h =
      subst (λ (r : Float). Most f r false B) (sym (add_units f x (div f (sub f y x) z) false X false Q hx hq.value ∙ alike f X Q L)) (cap_units f false (X + Q) B rb h)

  -- no more than twice y, for every n
  pub rises_within : (B : ℕ) → Rep f B → W + W ≤ B → HasValue x false X (2 ^ low f) → X ≤ W → Most f (add f x (div f (sub f y x) z)) false B
  rises_within B rb b hx h =
      let Q = quot false (W - X) (gap hx h) (lt_of_le_of_lt gap-le rv.under) in
      risen B Q.0 rb hx Q.1 (le_trans (add-le-add h (le_trans Q.2 gap-le)) b)

  fit : (Q : ℕ) → X ≤ W → Q ≤ W - X → X + Q ≤ W
  fit Q h k = omega arith

  -- no more than y, for n ≥ 2: halving makes up for a difference that was rounded up
  pub rises : 2 ≤ n → HasValue x false X (2 ^ low f) → X ≤ W → Most f (add f x (div f (sub f y x) z)) false W
  rises two hx h =
      let N = W - X in
      let e : div f (sub f y x) z ≡ round f false (grid f N L) (L * n) =
      ap (λ (r : Float). div f r z) (gap hx h) ∙ div_units f (round f false N L) z false (grid f N L) n (made f false N L (lt_of_le_of_lt gap-le rv.under)).value hz n_pos in
      let Q = half f false N n (lt_of_le_of_lt (sub-le W X) rv.under) two in
      risen W Q.0 rv hx (subst (λ (r : Float). Is f r false Q.0) (sym e) Q.1) (fit Q.0 h Q.2)

  opposite : (Q : ℕ) → Rep f Q → T (finite (sum f true X false Q L))
  unfolding sum
  opposite Q rq = go (ltb X Q)
    where
      u : Most f (round f false (Q - X) L) false Q
      u = cap_units f false (Q - X) Q rq (sub-le Q X)

      w : (s : Bool) → Most f (round f s (X - Q) L) s X
      w s = cap_units f s (X - Q) X rx (sub-le X Q)

      go : (b : Bool) → T (finite (cond b (round f false (Q - X) L) (round f (true && ltb Q X) (X - Q) L)))
      go true = is_finite f (round f false (Q - X) L) false u.0 u.1
      go false = let s = ltb Q X in is_finite f (round f s (X - Q) L) s (w s).0 (w s).1

  -- x is negative: x and the quotient have opposite signs
  pub climbs : HasValue x true X (2 ^ low f) → grid f (W + X) L < overflow f → T (finite (add f x (div f (sub f y x) z)))
  climbs hx h =
      let q = div f (sub f y x) z in
      let Q = quot false (W + X) (sub_units f y x false W true X hy hx ∙ alike f W X L) h in
      subst (λ (r : Float). T (finite r)) (sym (add_units f x q true X false Q.0 hx Q.1.value)) (opposite Q.0 Q.1.rep)

-- ---- the one sum that can pass the largest value: v + |s|. A u32 is far below half a unit in the last place there, so it rounds back.
largest : (a b q j : ℕ) → q < 2 ^ a → q * 2 ^ j < 2 ^ (a + b) → q * 2 ^ j ≤ (2 ^ a - 1) * 2 ^ b
largest a b q j s h = go (leb j b) (leb→le j b) (nleb→lt j b)
  where
    go : (t : Bool) → (T t → j ≤ b) → (T (not t) → b < j) → q * 2 ^ j ≤ (2 ^ a - 1) * 2 ^ b
    go true k m = mul-le-mul (le_ones a s) (pow_mono (k tt))
    go false k m =
        let e : q * 2 ^ j ≡ q * 2 ^ (j - b) * 2 ^ b =
        ap (λ (x : ℕ). q * x) (ap (λ (x : ℕ). 2 ^ x) (sym (back j b (le_of_lt (m tt)))) ∙ pow-add 2 (j - b) b) ∙ sym (mul_assoc q (2 ^ (j - b)) (2 ^ b)) in
        let l : q * 2 ^ (j - b) < 2 ^ a = lt_of_mul-lt-mul_right (2 ^ b) (subst (λ (x : ℕ). x < 2 ^ a * 2 ^ b) e (subst (λ (x : ℕ). q * 2 ^ j < x) (pow-add 2 a b) h)) in
        le_trans (le_of_eq e) (mul-le-mul_right (2 ^ b) (le_ones a l))

no_overflow : (f : Format) (a b m : ℕ) (k : ℕ) → T (le (round f false a b) (fin false m (pos k))) → T (scale.finite (round f false a b))
unfolding units le
no_overflow f a b m k t = subst (λ (r : Float). T (scale.finite r)) (sym (round_is f false a b)) (at (kept (prec f) (a * 2 ^ low f) b) (drop (prec f) (a * 2 ^ low f) b) (subst (λ (r : Float). T (le r (fin false m (pos k)))) (round_is f false a b) t))
  where
    whole : (x : Float) (s : Bool) (A C : ℕ) → HasValue x s A C → T (scale.finite x)
    whole nan s A C h = absurd h
    whole (inf u) s A C h = absurd h
    whole (fin u w e) s A C h = tt

    at : (q j : ℕ) → T (le (units f false q j) (fin false m (pos k))) → T (scale.finite (units f false q j))
    at q j = go (ltb (q * 2 ^ j) (overflow f))
      where
        go : (c : Bool) → T (le (cond c (odd (suc (prec f)) false q j (low f)) (inf false)) (fin false m (pos k))) → T (scale.finite (cond c (odd (suc (prec f)) false q j (low f)) (inf false)))
        go true h = whole (odd (suc (prec f)) false q j (low f)) false (q * 2 ^ j) (2 ^ low f) (odd_sign (suc (prec f)) false q j (low f))
        go false h = absurd h

-- the largest value and 2 ^ 32, in units
abbrev roof : ℕ
roof = 2 ^ 32 * 2 ^ 1074 + (2 ^ 53 - 1) * 2 ^ 2045

roof_rounds : round binary64 false roof (2 ^ 1074) ≡ fin false 9007199254740991 (pos 971)
unfolding round
roof_rounds = refl

rounds_back : (v X : ℕ) → v < 2 ^ 32 → Rep binary64 X → grid binary64 (v * 2 ^ 1074 + X) (2 ^ 1074) < overflow binary64
rounds_back v X h r =
    let b : X ≤ (2 ^ 53 - 1) * 2 ^ 2045 = subst (λ (x : ℕ). x ≤ (2 ^ 53 - 1) * 2 ^ 2045) r.is (largest 53 2045 r.q r.j r.small (subst (λ (x : ℕ). x < 2 ^ (53 + 2045)) (sym r.is) r.under)) in
    let n = v * 2 ^ 1074 + X in
    let c : n ≤ roof = add-le-add (mul-le-mul_right (2 ^ 1074) (le_of_lt h)) b in
    round_under binary64 n (2 ^ 1074)
    (no_overflow binary64 n (2 ^ 1074) 9007199254740991 971
    (subst (λ (y : Float). T (le (round binary64 false n (2 ^ 1074)) y)) roof_rounds (round_mono binary64 n (2 ^ 1074) roof (2 ^ 1074) (pow_pos 1074) (pow_pos 1074) (mul-le-mul_right (2 ^ 1074) c))))

-- ---- a whole number up to 2 ^ 53 as an f64; a u32 is one, and so is twice a u32
small : (v : ℕ) → v < 2 ^ 32 → v ≤ 2 ^ 53
small v h = le_trans (le_of_lt h) (lit≤ tt)

float_is : (v : ℕ) → v ≤ 2 ^ 53 → HasValue (float v) false v 1
unfolding of_int
float_is v h = round_whole binary64 false v h

in_units : (x : Float) (s : Bool) (v L : ℕ) → HasValue x s v 1 → HasValue x s (v * L) L
in_units nan s v L h = absurd h
in_units (inf t) s v L h = absurd h
in_units (fin t m e) s v L h = (h.0, ap (λ (z : ℕ). z * L) (sym (mul-one (m * up e)) ∙ h.1) ∙ mul_right_comm v (down e) L)

float_units : (v : ℕ) → v ≤ 2 ^ 53 → Is binary64 (float v) false (v * 2 ^ 1074)
float_units v h =
    let u = in_units (float v) false v (2 ^ 1074) (float_is v h) in
    record { value = u; rep = rep_of binary64 (float v) false (v * 2 ^ 1074) (of_int-fits binary64 (pos v)) u }

-- ---- a bound of c, in units and back
to_units : (a d X c L : ℕ) → 0 < d → a * L ≡ X * d → a ≤ c * d → X ≤ c * L
to_units a d X c L D e h = le_of_mul-le-mul_right (le_trans (le_of_eq (sym e)) (le_trans (mul-le-mul_right L h) (le_of_eq (mul_right_comm c d L)))) D

of_units : (a d X c L : ℕ) → 0 < L → a * L ≡ X * d → X ≤ c * L → a ≤ c * d
of_units a d X c L P e h = to_units X L a c d P (sym e) h

out : (r : Float) (G : ℕ) → Is binary64 r false G → G ≤ 4294967295 * 2 ^ 1074 → T (in_range r)
out nan G h k = absurd h.value
out (inf t) G h k = absurd h.value
out (fin true m e) G h k = absurd (true≢false h.value.0)
out (fin false m e) G h k = le→leb (m * up e) (4294967295 * down e) (of_units (m * up e) (down e) G 4294967295 (2 ^ 1074) (pow_pos 1074) h.value.1 k)

-- ---- the first mean
pub first_finite : (v : ℕ) → v < 2 ^ 32 → T (finite (float v))
first_finite v h = is_finite binary64 (float v) false (v * 2 ^ 1074) (float_units v (small v h))

pub first_in : (v : ℕ) → v < 2 ^ 32 → T (in_range (float v))
first_in v h = out (float v) (v * 2 ^ 1074) (float_units v (small v h)) (mul-le-mul_right (2 ^ 1074) (le_ones 32 h))

-- ---- the next mean
twice : (v : ℕ) → v < 2 ^ 32 → v + v ≤ 2 ^ 53
twice v h = omega arith

abbrev next : Float → ℕ → ℕ → Float
next x v n = add binary64 x (div binary64 (sub binary64 (float v) x) (float n))

module _ (v n : ℕ) (hv : v < 2 ^ 32) (hn : n < 2 ^ 32) (one : 1 ≤ n) where
  abbrev W : ℕ
  W = v * 2 ^ 1074

  u : Is binary64 (float v) false W
  u = float_units v (small v hv)

  -- x is not negative: finite for every n
  plus-finite : (x : Float) (X : ℕ) → Is binary64 x false X → T (finite (next x v n))
  plus-finite x X h = go (ltb W X) (ltb→lt W X) (nltb→le W X)
    where
      done : (B : ℕ) → Most binary64 (next x v n) false B → T (finite (next x v n))
      done B c = is_finite binary64 (next x v n) false c.0 c.1

      go : (t : Bool) → (T t → W < X) → (T (not t) → X ≤ W) → T (finite (next x v n))
      go true k m = done X (falls binary64 x (float v) (float n) X W n u.value (float_is n (small n hn)) h.rep u.rep one h.value (k tt))
      go false k m =
          let B = (v + v) * 2 ^ 1074 in
          done B (rises_within binary64 x (float v) (float n) X W n u.value (float_is n (small n hn)) h.rep u.rep one B (float_units (v + v) (twice v hv)).rep (le_of_eq (sym (add-mul v v (2 ^ 1074)))) h.value (m tt))

  pub next_finite : (x : Float) → T (fits binary64 x) → T (finite x) → T (finite (next x v n))
  next_finite nan f h = absurd h
  next_finite (inf s) f h = absurd h
  next_finite (fin true m e) f h =
      let i = units_of binary64 true m e f in
      climbs binary64 (fin true m e) (float v) (float n) i.0 W n u.value (float_is n (small n hn)) i.1.rep u.rep one i.1.value (rounds_back v i.0 hv i.1.rep)
  next_finite (fin false m e) f h =
      let i = units_of binary64 false m e f in
      plus-finite (fin false m e) i.0 i.1

  -- x is not negative and n ≥ 2: at most any bound that x and v keep
  pub stays : 2 ≤ n → (x : Float) (X B : ℕ) → Is binary64 x false X → X ≤ B → W ≤ B → Most binary64 (next x v n) false B
  stays two x X B h a b = go (ltb W X) (ltb→lt W X) (nltb→le W X)
    where
      go : (t : Bool) → (T t → W < X) → (T (not t) → X ≤ W) → Most binary64 (next x v n) false B
      go true k m = let c = falls binary64 x (float v) (float n) X W n u.value (float_is n (small n hn)) h.rep u.rep one h.value (k tt) in (c.0, c.1, le_trans c.2 a)
      go false k m = let c = rises binary64 x (float v) (float n) X W n u.value (float_is n (small n hn)) h.rep u.rep one two h.value (m tt) in (c.0, c.1, le_trans c.2 b)

  pub next_in : 2 ≤ n → (x : Float) → T (fits binary64 x) → T (in_range x) → T (in_range (next x v n))
  next_in two nan f h = absurd h
  next_in two (inf s) f h = absurd h
  next_in two (fin true m e) f h = absurd h
  next_in two (fin false m e) f h =
      let x = fin false m e in
      let i = units_of binary64 false m e f in
      let a = to_units (m * up e) (down e) i.0 4294967295 (2 ^ 1074) (down_pos e) i.1.value.1 (leb→le (m * up e) (4294967295 * down e) h) in
      let c = stays two x i.0 (4294967295 * 2 ^ 1074) i.1 a (mul-le-mul_right (2 ^ 1074) (le_ones 32 hv)) in
      out (next x v n) c.0 c.1 c.2
