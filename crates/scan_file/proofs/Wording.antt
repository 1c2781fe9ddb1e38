-- Words and their bytes, both ways, and lists made of a rule. Assumes nothing.
use mathlib.Core.Path.{◌≡◌, refl, ap, ◌∙◌}
use mathlib.Core.List.{List, [], ◌∷◌, ◌++◌}
use Prim.Native.Nat.{ℕ, zero, suc, ◌+◌, ◌*◌, ◌/◌, ◌%◌, ◌^◌, ◌<◌}
use native.Mathlib.Nat.{div-div-eq-div-mul}
use native.Mathlib.Omega.{arith}
use lib.ListN.{length, get_or}
use Rattle.scan_file.specs.Words.{bytes_of, word_at, each, Below}

-- a list made of a rule: its length, its members, two rules that agree, a list that agrees with a rule, two runs joined
module _ {A : Type 0} where
  pub length_each : (f : ℕ → A) (i n : ℕ) → length (each f i n) ≡ n
  unfolding each
  length_each f i zero = refl
  length_each f i (suc n) = ap suc (length_each f (suc i) n)

  pub each_at : (f : ℕ → A) (i n k : ℕ) (d : A) → k < n → get_or (each f i n) k d ≡ f (i + k)
  unfolding each
  each_at f i zero k d h = absurd (omega arith)
  each_at f i (suc n) zero d h = ap f (omega arith)
  each_at f i (suc n) (suc k) d h = each_at f (suc i) n k d (omega arith) ∙ ap f (omega arith)

  pub each_same : (f g : ℕ → A) (i j n : ℕ) → ((k : ℕ) → f (i + k) ≡ g (j + k)) → each f i n ≡ each g j n
  unfolding each
  each_same f g i j zero h = refl
  each_same f g i j (suc n) h =
      let p : f i ≡ f (i + 0) = ap f (omega arith) in
      let q : g (j + 0) ≡ g j = ap g (omega arith) in
      let rest : (k : ℕ) → f (suc i + k) ≡ g (suc j + k) =
      λ k.
      let p : f (suc i + k) ≡ f (i + suc k) = ap f (omega arith) in
      let q : g (j + suc k) ≡ g (suc j + k) = ap g (omega arith) in
      p ∙ h (suc k) ∙ q
      in
      rw (p ∙ h 0 ∙ q, each_same f g (suc i) (suc j) n rest)

  pub each_list : (f : ℕ → A) (i : ℕ) (xs : List A) (d : A) → ((k : ℕ) → k < length xs → f (i + k) ≡ get_or xs k d)
      → each f i (length xs) ≡ xs
  unfolding each
  each_list f i [] d h = refl
  each_list f i (x ∷ xs) d h =
      let p : f i ≡ f (i + 0) = ap f (omega arith) in
      let rest : (k : ℕ) → k < length xs → f (suc i + k) ≡ get_or xs k d =
      λ k b. let p : f (suc i + k) ≡ f (i + suc k) = ap f (omega arith) in p ∙ h (suc k) (omega arith)
      in
      rw (p ∙ h 0 (omega arith), each_list f (suc i) xs d rest)

  pub each_add : (f : ℕ → A) (i m n : ℕ) → each f i (m + n) ≡ each f i m ++ each f (i + m) n
  unfolding each
  each_add f i zero n =
      let p : 0 + n ≡ n = omega arith in
      let q : i ≡ i + 0 = omega arith in
      ap (each f i) p ∙ ap (λ (k : ℕ). each f k n) q
  each_add f i (suc m) n =
      let p : suc m + n ≡ suc (m + n) = omega arith in
      let q : suc i + m ≡ i + suc m = omega arith in
      ap (each f i) p ∙ ap (λ (l : List A). f i ∷ l) (each_add f (suc i) m n ∙ ap (λ (k : ℕ). each f (suc i) m ++ each f k n) q)

pub each_below : (m : ℕ) (f : ℕ → ℕ) (i n : ℕ) → ((k : ℕ) → f k < m) → Below m (each f i n)
unfolding each
each_below m f i zero h = tt
each_below m f i (suc n) h = (h i, each_below m f (suc i) n h)

-- bytes are below 256, the 0 behind the end too, so words are below 2 ^ 32
pub byte_below : (bytes : List ℕ) → Below 256 bytes → (i : ℕ) → get_or bytes i 0 < 256
byte_below [] h i = omega arith
byte_below (b ∷ bs) h zero = h.0
byte_below (b ∷ bs) h (suc i) = byte_below bs h.1 i

pub word_below : (bytes : List ℕ) → Below 256 bytes → (i : ℕ) → word_at bytes i < 2 ^ 32
unfolding word_at
word_below bytes h i =
    omega (
      arith,
      byte_below bytes h (4 * i),
      byte_below bytes h (4 * i + 1),
      byte_below bytes h (4 * i + 2),
      byte_below bytes h (4 * i + 3),
    )

-- the first word, and the words behind it
module _ (a b c d : ℕ) (bs : List ℕ) where
  pub word_first : word_at (a ∷ b ∷ c ∷ d ∷ bs) 0 ≡ a + 256 * b + 65536 * c + 16777216 * d
  unfolding word_at
  word_first = refl

  past : (n k : ℕ) → n ≡ suc (suc (suc (suc k))) → get_or (a ∷ b ∷ c ∷ d ∷ bs) n 0 ≡ get_or bs k 0
  past n k e = ap (λ (m : ℕ). get_or (a ∷ b ∷ c ∷ d ∷ bs) m 0) e

  pub word_next : (i : ℕ) → word_at (a ∷ b ∷ c ∷ d ∷ bs) (suc i) ≡ word_at bs i
  unfolding word_at
  word_next i =
      rw (
        past (4 * suc i) (4 * i) (omega arith),
        past (4 * suc i + 1) (4 * i + 1) (omega arith),
        past (4 * suc i + 2) (4 * i + 2) (omega arith),
        past (4 * suc i + 3) (4 * i + 3) (omega arith),
      )

pub length_bytes : (ws : List ℕ) → length (bytes_of ws) ≡ 4 * length ws
unfolding bytes_of
length_bytes [] = refl
length_bytes (w ∷ ws) = omega (arith, length_bytes ws)

-- the words in the bytes of words
none_left : (i : ℕ) → word_at [] i ≡ 0
unfolding word_at
none_left i = refl

-- a number by its last digit to base 256 and the rest
digit : (q : ℕ) → q ≡ q % 256 + 256 * (q / 256)
digit q = omega arith

last_digit : (q b r : ℕ) → q ≡ b + 256 * r → b < 256 → q % 256 ≡ b
last_digit q b r e h = omega arith

add_up : (w q r a b c d : ℕ) → w ≡ a + 256 * q → q ≡ b + 256 * r → r ≡ c + 256 * d → a + 256 * b + 65536 * c + 16777216 * d ≡ w
add_up w q r a b c d x y z = omega arith

pub word_of : (ws : List ℕ) → Below (2 ^ 32) ws → (i : ℕ) → word_at (bytes_of ws) i ≡ get_or ws i 0
unfolding bytes_of
word_of [] h i = none_left i
word_of (w ∷ ws) h zero =
    let b = h.0 in
    let y : w / 256 ≡ w / 256 % 256 + 256 * (w / 65536) = rw div-div-eq-div-mul at (digit (w / 256)) in
    let z : w / 65536 ≡ w / 65536 % 256 + 256 * (w / 16777216) = rw div-div-eq-div-mul at (digit (w / 65536)) in
    let top : w / 16777216 ≡ w / 16777216 % 256 = omega arith in
    word_first (w % 256) (w / 256 % 256) (w / 65536 % 256) (w / 16777216 % 256) (bytes_of ws)
    ∙ add_up w (w / 256) (w / 65536) (w % 256) (w / 256 % 256) (w / 65536 % 256) (w / 16777216 % 256) (digit w) y (rw top at z)
word_of (w ∷ ws) h (suc i) =
    word_next (w % 256) (w / 256 % 256) (w / 65536 % 256) (w / 16777216 % 256) (bytes_of ws) i ∙ word_of ws h.1 i

-- the bytes of the words in bytes
four : (a b c d : ℕ) (ws : List ℕ) → a < 256 → b < 256 → c < 256 → d < 256
    → bytes_of ((a + 256 * b + 65536 * c + 16777216 * d) ∷ ws) ≡ a ∷ b ∷ c ∷ d ∷ bytes_of ws
unfolding bytes_of
four a b c d ws p q r s =
    let w = a + 256 * b + 65536 * c + 16777216 * d in
    let e0 : w % 256 ≡ a = omega arith in
    let q1 : w / 256 ≡ b + 256 * c + 65536 * d = omega arith in
    let q2 : w / 65536 ≡ c + 256 * d = omega arith in
    let q3 : w / 16777216 ≡ d = omega arith in
    let e1 = last_digit (w / 256) b (c + 256 * d) (omega (arith, q1)) q in
    let e2 = last_digit (w / 65536) c d q2 r in
    let e3 = last_digit (w / 16777216) d 0 (omega (arith, q3)) s in
    rw (e0, e1, e2, e3)

pub bytes_back : (bytes : List ℕ) (n : ℕ) → Below 256 bytes → length bytes ≡ 4 * n → bytes_of (each (word_at bytes) 0 n) ≡ bytes
unfolding each bytes_of
bytes_back [] zero h e = refl
bytes_back [] (suc n) h e = absurd (omega arith)
bytes_back (a ∷ []) n h e = absurd (omega arith)
bytes_back (a ∷ b ∷ []) n h e = absurd (omega arith)
bytes_back (a ∷ b ∷ c ∷ []) n h e = absurd (omega arith)
bytes_back (a ∷ b ∷ c ∷ d ∷ bs) zero h e = absurd (omega arith)
bytes_back (a ∷ b ∷ c ∷ d ∷ bs) (suc n) h e =
    let next : (k : ℕ) → word_at (a ∷ b ∷ c ∷ d ∷ bs) (1 + k) ≡ word_at bs (0 + k) =
    λ k.
    let p : 1 + k ≡ suc k = omega arith in
    let q : k ≡ 0 + k = omega arith in
    ap (word_at (a ∷ b ∷ c ∷ d ∷ bs)) p ∙ word_next a b c d bs k ∙ ap (word_at bs) q
    in
    ap (λ (ws : List ℕ). bytes_of (word_at (a ∷ b ∷ c ∷ d ∷ bs) 0 ∷ ws)) (each_same (word_at (a ∷ b ∷ c ∷ d ∷ bs)) (word_at bs) 1 0 n next)
    ∙ ap (λ (w : ℕ). bytes_of (w ∷ each (word_at bs) 0 n)) (word_first a b c d bs)
    ∙ four a b c d (each (word_at bs) 0 n) h.0 h.1.0 h.1.1.0 h.1.1.1.0
    ∙ ap (λ (l : List ℕ). a ∷ b ∷ c ∷ d ∷ l) (bytes_back bs n h.1.1.1.1 (omega arith))
