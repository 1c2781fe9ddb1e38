-- Bounds on `round` and on the operations, with every size counted in units of the format's smallest value, 2 ^ -low.
-- `Rep f U`: U units is a value that f holds. `Is f x s X`: x is finite, has the sign s, is X units in size, and f holds it.
-- Assumes nothing.
use mathlib.Core.Path.{◌≡◌, refl, sym, ap, ◌∙◌, subst}
use mathlib.Core.Logic.{inl, inr}
use Prim.Native.Nat.{ℕ, zero, suc, ◌+◌, ◌-◌, ◌*◌, ◌/◌, ◌%◌, ◌^◌, ◌≤◌, ◌<◌, zero-le, compare}
use native.Mathlib.Nat.{le_trans, le_of_eq, le_of_suc-le-suc, lt_of_lt_of_le, lt_of_le_of_lt, lt_of_not-le, not-le_of_lt, zero-lt-suc, eq-zero-or-pos, zero-mul, mul-one, one-mul, mul_comm, mul_assoc, mul_right_comm, mul-pos, mul-sub, add-mul, mul-le-mul_left, mul-le-mul_right, le-mul_of_pos_right, mul-lt-mul_of_pos_right, lt_of_mul-lt-mul_right, eq_of_mul-eq-mul_right, mod-one, div-one, div-le_of_le-mul, div-mul-le_self, mul-div_cancel, div-div-eq-div-mul, le-div_iff_mul-le}
use native.Mathlib.Omega.{arith}
use mathlib.Core.Bool.{Bool, true, false, not, ◌&&◌, beq, cond}
use lib.IntN.{ℤ, pos, negsuc}
use lib.Dec.{T, leb, ltb, eqb, leb→le, ltb→lt, lt→ltb, eqb-suc-zero}
use lib.Pow.{pow-add, pow_pos, pow-lt, shl_lt}
use lib.Ieee.{Float, nan, inf, fin, Format, prec, emax, low, unlike, up, down, size, nearest, round, neg, sum, add, sub, div, fits}
use lib.Ieee.Digits.{size-le, size_reaches, back}
use lib.Ieee.Fits.{and_l, and_r, down_pos, round_is, round-fits, nearest-le, kept-lt, two, two-le_pos}
use lib.Ieee.Exact.{HasValue, units_val}
use lib.Ieee.Nearest.{closest, closest_mono}
use lib.Ieee.Order.{drop, kept}
use lib.Ieee.Scale.{round_same, grid, overflow}

pub record Rep (f : Format) (U : ℕ) : Type 0 where
  pub q : ℕ
  pub j : ℕ
  pub small : q < 2 ^ prec f
  pub is : q * 2 ^ j ≡ U
  pub under : U < overflow f

pub record Is (f : Format) (x : Float) (s : Bool) (X : ℕ) : Type 0 where
  pub value : HasValue x s X (2 ^ low f)
  pub rep : Rep f X

-- ---- a value that fits is a whole number of units
pow_le_inv : (a b : ℕ) → 2 ^ a ≤ 2 ^ b → a ≤ b
pow_le_inv a b h = le_of_suc-le-suc (lt_of_not-le (λ (g : suc b ≤ a). not-le_of_lt (pow-lt g) h))

pub zero_rep : (f : Format) → Rep f 0
zero_rep f = record { q = 0; j = 0; small = pow_pos (prec f); is = refl; under = pow_pos (low f + suc (emax f)) }

pack : (f : Format) (s : Bool) (m : ℕ) (e : ℤ) (j : ℕ) → m < 2 ^ prec f → m * up e < 2 ^ suc (emax f) * down e → m * up e * 2 ^ low f ≡ m * 2 ^ j * down e → Is f (fin s m e) s (m * 2 ^ j)
pack f s m e j a b v =
    let l = low f in
    let w : m * 2 ^ j * down e < overflow f * down e =
    subst (λ (x : ℕ). x < overflow f * down e) v
    (subst (λ (x : ℕ). m * up e * 2 ^ l < x)
    (mul_right_comm (2 ^ suc (emax f)) (down e) (2 ^ l) ∙ ap (λ (x : ℕ). x * down e) (mul_comm (2 ^ suc (emax f)) (2 ^ l) ∙ sym (pow-add 2 l (suc (emax f)))))
    (mul-lt-mul_of_pos_right b (pow_pos l))) in
    record { value = (refl, v); rep = record { q = m; j = j; small = a; is = refl; under = lt_of_mul-lt-mul_right (down e) w } }

at : (f : Format) (s : Bool) (m : ℕ) (e : ℤ) → m < 2 ^ prec f → down e ≤ 2 ^ low f → m * up e < 2 ^ suc (emax f) * down e → (X : ℕ) × Is f (fin s m e) s X
at f s m (pos k) a d b =
    (m * 2 ^ (k + low f), pack f s m (pos k) (k + low f) a b (mul_assoc m (2 ^ k) (2 ^ low f) ∙ ap (λ (x : ℕ). m * x) (sym (pow-add 2 k (low f))) ∙ sym (mul-one (m * 2 ^ (k + low f)))))
at f s m (negsuc k) a d b =
    let l = low f in
    let j = l - suc k in (
      m * 2 ^ j,
      pack f s m (negsuc k) j a b
          (ap (λ (x : ℕ). x * 2 ^ l) (mul-one m) ∙ ap (λ (x : ℕ). m * x) (ap (λ (x : ℕ). 2 ^ x) (sym (back l (suc k) (pow_le_inv (suc k) l d))) ∙ pow-add 2 j (suc k)) ∙ sym (mul_assoc m (2 ^ j) (2 ^ suc k))),
    )

pub units_of : (f : Format) (s : Bool) (m : ℕ) (e : ℤ) → T (fits f (fin s m e)) → (X : ℕ) × Is f (fin s m e) s X
unfolding fits
units_of f s zero e h = (0, record { value = (refl, ap (λ (x : ℕ). x * 2 ^ low f) (zero-mul (up e)) ∙ zero-mul (2 ^ low f) ∙ sym (zero-mul (down e))); rep = zero_rep f })
units_of f s (suc m) e h =
    let a : Bool = eqb (suc m % 2) 1 in
    let b : Bool = ltb (suc m) (2 ^ prec f) in
    let c : Bool = leb (down e) (2 ^ low f) in
    let d : Bool = ltb (suc m * up e) (2 ^ suc (emax f) * down e) in
    at f s (suc m) e
    (ltb→lt (suc m) (2 ^ prec f) (and_r a b (and_l (a && b) c (and_l (a && b && c) d h))))
    (leb→le (down e) (2 ^ low f) (and_r (a && b) c (and_l (a && b && c) d h)))
    (ltb→lt (suc m * up e) (2 ^ suc (emax f) * down e) (and_r (a && b && c) d h))

pub rep_of : (f : Format) (x : Float) (s : Bool) (X : ℕ) → T (fits f x) → HasValue x s X (2 ^ low f) → Rep f X
rep_of f nan s X h v = absurd v
rep_of f (inf t) s X h v = absurd v
rep_of f (fin t m e) s X h v =
    let u = units_of f t m e h in
    subst (λ (z : ℕ). Rep f z) (eq_of_mul-eq-mul_right (down e) (down_pos e) u.0 X (sym u.1.value.1 ∙ v.1)) u.1.rep

-- ---- `round` of a fraction that is no more than U units is no more than U units, where f holds U units
closest_one : (n : ℕ) → closest n 1 ≡ n
closest_one n = ap (λ (x : ℕ). nearest (n / 1) (compare (x * 2) 1)) (mod-one n) ∙ div-one n

spare : (z p l : ℕ) → z ≤ p + l → z - p ≤ l
spare z p l h = omega arith

pub cap_grid : (f : Format) (a b U : ℕ) → 0 < b → Rep f U → a * 2 ^ low f ≤ U * b → grid f a b ≤ U
cap_grid f a b U B r h =
    let p = prec f in
    let n = a * 2 ^ low f in
    let q = r.q in
    let j = r.j in
    let h1 : n ≤ q * 2 ^ j * b = subst (λ (x : ℕ). n ≤ x * b) (sym r.is) h in
    let w : n / b < 2 ^ (p + j) = lt_of_le_of_lt (div-le_of_le-mul b (le_trans h1 (le_of_eq (mul_comm (q * 2 ^ j) b)))) (shl_lt p j r.small) in
    let k = drop p n b in
    let k-le : k ≤ j = spare (size (n / b)) p j (size-le (n / b) (p + j) w) in
    let t = q * 2 ^ (j - k) in
    let e : t * 2 ^ k ≡ q * 2 ^ j = mul_assoc q (2 ^ (j - k)) (2 ^ k) ∙ ap (λ (x : ℕ). q * x) (sym (pow-add 2 (j - k) k) ∙ ap (λ (x : ℕ). 2 ^ x) (back j k k-le)) in
    let h2 : n * 1 ≤ t * (b * 2 ^ k) =
    le_trans (le_of_eq (mul-one n)) (le_trans h1 (le_of_eq (ap (λ (x : ℕ). x * b) (sym e) ∙ mul_assoc t (2 ^ k) b ∙ ap (λ (x : ℕ). t * x) (mul_comm (2 ^ k) b)))) in
    let c : closest n (b * 2 ^ k) ≤ t = subst (λ (x : ℕ). closest n (b * 2 ^ k) ≤ x) (closest_one t) (closest_mono n (b * 2 ^ k) t 1 (mul-pos B (pow_pos k)) (zero-lt-suc 0) h2) in
    le_trans (mul-le-mul_right (2 ^ k) c) (le_of_eq (e ∙ r.is))

-- what `round` makes where it does not overflow, with either sign
pub made : (f : Format) (s : Bool) (a b : ℕ) → grid f a b < overflow f → Is f (round f s a b) s (grid f a b)
made f s a b h =
    let v : HasValue (round f s a b) s (grid f a b) (2 ^ low f) =
    subst (λ (z : Float). HasValue z s (grid f a b) (2 ^ low f)) (sym (round_is f s a b)) (units_val f s (kept (prec f) (a * 2 ^ low f) b) (drop (prec f) (a * 2 ^ low f) b) h) in
    record { value = v; rep = rep_of f (round f s a b) s (grid f a b) (round-fits f s a b) v }

abbrev pub Most : Format → Float → Bool → ℕ → Type 0
Most f x s U = (G : ℕ) × Is f x s G × (G ≤ U)

pub cap : (f : Format) (s : Bool) (a b U : ℕ) → 0 < b → Rep f U → a * 2 ^ low f ≤ U * b → Most f (round f s a b) s U
cap f s a b U B r h =
    let g = cap_grid f a b U B r h in
    (grid f a b, made f s a b (lt_of_le_of_lt g r.under), g)

-- the same for a whole number of units
pub cap_units : (f : Format) (s : Bool) (a U : ℕ) → Rep f U → a ≤ U → Most f (round f s a (2 ^ low f)) s U
cap_units f s a U r h = cap f s a (2 ^ low f) U (pow_pos (low f)) r (mul-le-mul_right (2 ^ low f) h)

-- ---- the operations, in units
iff : (p q : Bool) → (T p → T q) → (T q → T p) → p ≡ q
iff true true h k = refl
iff true false h k = absurd (h tt)
iff false true h k = absurd (k tt)
iff false false h k = refl

lt_across : (a b X Y c L : ℕ) → 0 < L → a * L ≡ X * c → b * L ≡ Y * c → a < b → X < Y
lt_across a b X Y c L P h k g = lt_of_mul-lt-mul_right c (subst (λ (z : ℕ). z < Y * c) h (subst (λ (z : ℕ). a * L < z) k (mul-lt-mul_of_pos_right g P)))

ltb_same : (a b X Y c L : ℕ) → 0 < c → 0 < L → a * L ≡ X * c → b * L ≡ Y * c → ltb a b ≡ ltb X Y
ltb_same a b X Y c L C P h k =
    iff (ltb a b) (ltb X Y)
    (λ (t : T (ltb a b)). lt→ltb X Y (lt_across a b X Y c L P h k (ltb→lt a b t)))
    (λ (t : T (ltb X Y)). lt→ltb a b (lt_across X Y a b L c C (sym h) (sym k) (ltb→lt X Y t)))

sub_mul : (a b c : ℕ) → (a - b) * c ≡ a * c - b * c
sub_mul a b c = mul_comm (a - b) c ∙ mul-sub c a b ∙ ap (λ (z : ℕ). z - c * b) (mul_comm c a) ∙ ap (λ (z : ℕ). a * c - z) (mul_comm c b)

minus_same : (a b X Y c L : ℕ) → a * L ≡ X * c → b * L ≡ Y * c → (a - b) * L ≡ (X - Y) * c
minus_same a b X Y c L h k = sub_mul a b L ∙ ap (λ (z : ℕ). z - b * L) h ∙ ap (λ (z : ℕ). X * c - z) k ∙ sym (sub_mul X Y c)

plus_same : (a b X Y c L : ℕ) → a * L ≡ X * c → b * L ≡ Y * c → (a + b) * L ≡ (X + Y) * c
plus_same a b X Y c L h k = add-mul a b L ∙ ap (λ (z : ℕ). z + b * L) h ∙ ap (λ (z : ℕ). X * c + z) k ∙ sym (add-mul X Y c)

sum_same : (f : Format) (s : Bool) (a : ℕ) (t : Bool) (b c X Y L : ℕ) → 0 < c → 0 < L → a * L ≡ X * c → b * L ≡ Y * c → sum f s a t b c ≡ sum f s X t Y L
unfolding sum
sum_same f s a t b c X Y L C P h k =
    let B = beq s t in
    ap (λ (r : Float). cond B r (cond (ltb a b) (round f t (b - a) c) (round f (s && ltb b a) (a - b) c))) (round_same f s (a + b) c (X + Y) L C P (plus_same a b X Y c L h k))
    ∙ ap (λ (r : Float). cond B (round f s (X + Y) L) (cond (ltb a b) r (round f (s && ltb b a) (a - b) c))) (round_same f t (b - a) c (Y - X) L C P (minus_same b a Y X c L k h))
    ∙ ap (λ (r : Float). cond B (round f s (X + Y) L) (cond (ltb a b) (round f t (Y - X) L) r)) (round_same f (s && ltb b a) (a - b) c (X - Y) L C P (minus_same a b X Y c L h k))
    ∙ ap (λ (z : Bool). cond B (round f s (X + Y) L) (cond z (round f t (Y - X) L) (round f (s && ltb b a) (X - Y) L))) (ltb_same a b X Y c L C P h k)
    ∙ ap (λ (z : Bool). cond B (round f s (X + Y) L) (cond (ltb X Y) (round f t (Y - X) L) (round f (s && z) (X - Y) L))) (ltb_same b a Y X c L C P k h)

pub add_units : (f : Format) (x y : Float) (s : Bool) (X : ℕ) (t : Bool) (Y : ℕ) → HasValue x s X (2 ^ low f) → HasValue y t Y (2 ^ low f) → add f x y ≡ sum f s X t Y (2 ^ low f)
unfolding add
add_units f nan y s X t Y h k = absurd h
add_units f (inf u) y s X t Y h k = absurd h
add_units f (fin u m e) nan s X t Y h k = absurd k
add_units f (fin u m e) (inf w) s X t Y h k = absurd k
add_units f (fin u m e) (fin w n d) s X t Y h k =
    let L = 2 ^ low f in
    let a = m * up e * down d in
    let b = n * up d * down e in
    let c = down e * down d in
    let p : a * L ≡ X * c = mul_right_comm (m * up e) (down d) L ∙ ap (λ (z : ℕ). z * down d) h.1 ∙ mul_assoc X (down e) (down d) in
    let q : b * L ≡ Y * c = mul_right_comm (n * up d) (down e) L ∙ ap (λ (z : ℕ). z * down e) k.1 ∙ mul_assoc Y (down d) (down e) ∙ ap (λ (z : ℕ). Y * z) (mul_comm (down d) (down e)) in
    sum_same f u a w b c X Y L (mul-pos (down_pos e) (down_pos d)) (pow_pos (low f)) p q
    ∙ ap (λ (z : Bool). sum f z X w Y L) h.0
    ∙ ap (λ (z : Bool). sum f s X z Y L) k.0

neg_units : (x : Float) (s : Bool) (X L : ℕ) → HasValue x s X L → HasValue (neg x) (not s) X L
unfolding neg
neg_units nan s X L h = absurd h
neg_units (inf u) s X L h = absurd h
neg_units (fin u m e) s X L h = (ap not h.0, h.1)

pub sub_units : (f : Format) (x y : Float) (s : Bool) (X : ℕ) (t : Bool) (Y : ℕ) → HasValue x s X (2 ^ low f) → HasValue y t Y (2 ^ low f) → sub f x y ≡ sum f s X (not t) Y (2 ^ low f)
unfolding sub
sub_units f x y s X t Y h k = add_units f x (neg y) s X (not t) Y h (neg_units y t Y (2 ^ low f) k)

unlike_false : (s : Bool) → unlike s false ≡ s
unlike_false true = refl
unlike_false false = refl

-- a divisor that is the whole number N
pub div_units : (f : Format) (x y : Float) (s : Bool) (X N : ℕ) → HasValue x s X (2 ^ low f) → HasValue y false N 1 → 0 < N → div f x y ≡ round f s X (2 ^ low f * N)
unfolding div
div_units f nan y s X N h k P = absurd h
div_units f (inf u) y s X N h k P = absurd h
div_units f (fin u m e) nan s X N h k P = absurd k
div_units f (fin u m e) (inf w) s X N h k P = absurd k
div_units f (fin u m e) (fin w zero d) s X N h k P =
    absurd (not-le_of_lt (mul-pos P (down_pos d)) (le_of_eq (sym k.1 ∙ mul-one (0 * up d) ∙ zero-mul (up d))))
div_units f (fin u m e) (fin w (suc n) d) s X N h k P =
    let L = 2 ^ low f in
    let B = suc n * up d in
    let kk : B ≡ N * down d = sym (mul-one B) ∙ k.1 in
    let B-pos : 0 < B = subst (λ (z : ℕ). 0 < z) (sym kk) (mul-pos P (down_pos d)) in
    let x1 : m * up e * down d * (L * N) ≡ X * (B * down e) =
    sym (mul_assoc (m * up e * down d) L N)
    ∙ ap (λ (z : ℕ). z * N) (mul_right_comm (m * up e) (down d) L ∙ ap (λ (z : ℕ). z * down d) h.1)
    ∙ mul_assoc (X * down e) (down d) N
    ∙ ap (λ (z : ℕ). X * down e * z) (mul_comm (down d) N ∙ sym kk)
    ∙ mul_assoc X (down e) B
    ∙ ap (λ (z : ℕ). X * z) (mul_comm (down e) B) in
    ap (λ (z : Bool). cond z (cond (eqb m 0) nan (inf (unlike u w))) (round f (unlike u w) (m * up e * down d) (B * down e))) (eqb-suc-zero n)
    ∙ round_same f (unlike u w) (m * up e * down d) (B * down e) X (L * N) (mul-pos B-pos (down_pos e)) (mul-pos (pow_pos (low f)) P) x1
    ∙ ap (λ (z : Bool). round f z X (L * N)) (ap (λ (z : Bool). unlike u z) k.0 ∙ unlike_false u ∙ h.0)

-- the quotient is no more than the dividend
pub quotient : (f : Format) (s : Bool) (X N : ℕ) → Rep f X → 0 < N → Most f (round f s X (2 ^ low f * N)) s X
quotient f s X N r P = cap f s X (2 ^ low f * N) X (mul-pos (pow_pos (low f)) P) r (mul-le-mul_left X (le-mul_of_pos_right (2 ^ low f) P))

-- ---- N units rounded, then divided by 2 or more and rounded again, are no more than N units, although the first rounding may go up
fewer : (z p : ℕ) → 0 < p → 0 < z - p → z - p < z
fewer z p P h = omega arith

pow_reached : (p N : ℕ) → 0 < p → 0 < N → 2 ^ (size N - p) ≤ N
pow_reached p N P H = elim (eq-zero-or-pos (size N - p)) [ inl z ↦ subst (λ (k : ℕ). 2 ^ k ≤ N) (sym z) H | inr g ↦ size_reaches N (size N - p) (fewer (size N) p P g) ]

double : (W : ℕ) → 1 ≤ W → suc W ≤ 2 * W
double W h = omega arith

-- some U units that f holds, with U ≤ N, of which N units rounded are at most the double
abbrev Floor : Format → ℕ → Type 0
Floor f N = (U : ℕ) × Rep f U × (U ≤ N) × (grid f N (2 ^ low f) ≤ 2 * U)

floor_pos : (f : Format) (N : ℕ) → N < overflow f → 0 < N → Floor f N
floor_pos f N O P =
    let p = prec f in
    let L = 2 ^ low f in
    let w = N * L / L in
    let wN : w ≡ N = mul-div_cancel N (pow_pos (low f)) in
    let k = size w - p in
    let W = w / 2 ^ k in
    let le : W * 2 ^ k ≤ N = subst (λ (x : ℕ). W * 2 ^ k ≤ x) wN (div-mul-le_self w (2 ^ k)) in
    let one : 1 ≤ W = (le-div_iff_mul-le (pow_pos k)).1 (le_trans (le_of_eq (one-mul (2 ^ k))) (pow_reached p w (two-le_pos p (two f)) (subst (λ (x : ℕ). 0 < x) (sym wN) P))) in
    let u = L * 2 ^ k in
    let near : kept p (N * L) L ≤ suc W = subst (λ (x : ℕ). kept p (N * L) L ≤ suc x) (sym (div-div-eq-div-mul (N * L) L (2 ^ k))) (nearest-le (N * L / u) (compare (N * L % u * 2) u)) in
    (W * 2 ^ k, record { q = W; j = k; small = kept-lt p w; is = refl; under = lt_of_le_of_lt le O }, le, le_trans (mul-le-mul_right (2 ^ k) (le_trans near (double W one))) (le_of_eq (mul_assoc 2 W (2 ^ k))))

floor : (f : Format) (N : ℕ) → N < overflow f → Floor f N
floor f N O = elim (eq-zero-or-pos N) [ inl z ↦ (0, zero_rep f, zero-le, cap_grid f N (2 ^ low f) 0 (pow_pos (low f)) (zero_rep f) (mul-le-mul_right (2 ^ low f) (le_of_eq z))) | inr g ↦ floor_pos f N O g ]

pub half : (f : Format) (s : Bool) (N m : ℕ) → N < overflow f → 2 ≤ m → Most f (round f s (grid f N (2 ^ low f)) (2 ^ low f * m)) s N
half f s N m O M =
    let L = 2 ^ low f in
    let G = grid f N L in
    let d = floor f N O in
    let U = d.0 in
    let h : G * L ≤ U * (L * m) =
    le_trans (mul-le-mul_right L (le_trans d.3 (mul-le-mul_right U M)))
    (le_of_eq (ap (λ (z : ℕ). z * L) (mul_comm m U) ∙ mul_assoc U m L ∙ ap (λ (z : ℕ). U * z) (mul_comm m L))) in
    let c = cap f s G (L * m) U (mul-pos (pow_pos (low f)) (lt_of_lt_of_le (zero-lt-suc 1) M)) d.1 h in
    (c.0, c.1, le_trans c.2 d.2)
