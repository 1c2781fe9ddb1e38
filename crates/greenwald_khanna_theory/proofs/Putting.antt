-- Putting an observation in keeps a summary sound and explained.
-- `put` does in one walk what `put_in` does by place, `take` and `drop`; the facts are shown of `put`, by recursion.
-- Assumes nothing.
use mathlib.Core.Path.{◌≡◌, refl, sym, ap, ◌∙◌}
use Prim.Native.Nat.{ℕ, suc, ◌+◌, ◌≤◌, ◌<◌}
use mathlib.Core.Bool.{Bool, true, false, cond, ◌||◌}
use mathlib.Core.List.{List, [], ◌∷◌, ◌++◌}
use native.Mathlib.Omega.{arith}
use lib.ListN.{length, take, drop}
use lib.Dec.{ltb, eqb, eqb-zero-suc, eqb-suc-zero, eqb-suc-suc}
use Rattle.entries.proofs.Choose.{lt-cases}
use Rattle.entries.specs.Ranks.{Rising, upto}
use Rattle.entries.specs.declared.Entry.{Entry}
use Rattle.entries.specs.Entry.{entry, values, sum_g}
use Rattle.entries.specs.Place.{place}
use Rattle.greenwald_khanna_theory.specs.Summary.{new_delta, put_in}
use Rattle.greenwald_khanna_theory.proofs.Rules.{Each, FirstExact, LastExact, Entries}
use Rattle.greenwald_khanna_theory.proofs.Counts.{ExplainedFrom}
use Rattle.entries.proofs.Counting.{below_one, below_none, upto_one, below_le_upto, upto_le_length, upto_le_below, upto_mono, below_more, upto_more}

-- d is the delta of a new entry in front of the list, p that of one further on but not at the end
unfoldable pub put : ℕ → ℕ → ℕ → List Entry → List Entry
put p x d [] = entry x 1 0 ∷ []
put p x d (e ∷ es) = cond (ltb x e.v) (entry x 1 d ∷ e ∷ es) (e ∷ put p x p es)

-- ---- `put_in` is `put`

delta_at : ℕ → ℕ → ℕ → ℕ → ℕ
delta_at p d k held = cond (eqb k held) 0 (cond (eqb k 0) d p)

cond_same : (b : Bool) (n : ℕ) → cond b n n ≡ n
cond_same true n = refl
cond_same false n = refl

cond_or : (a b : Bool) (p : ℕ) → cond (a || b) 0 p ≡ cond b 0 (cond a 0 p)
cond_or true true p = refl
cond_or true false p = refl
cond_or false b p = refl

placed : ℕ → ℕ → ℕ → ℕ → List Entry → List Entry
placed p d x k es = take k es ++ entry x 1 (delta_at p d k (length es)) ∷ drop k es

put_placed : (p x d : ℕ) (es : List Entry) → put p x d es ≡ placed p d x (place x (values es)) es
unfolding put place placed delta_at
put_placed p x d [] = refl
put_placed p x d (e ∷ es) = go (ltb x e.v) (put_placed p x p es)
  where
    go : (b : Bool) → put p x p es ≡ placed p p x (place x (values es)) es
        → cond b (entry x 1 d ∷ e ∷ es) (e ∷ put p x p es) ≡ placed p d x (cond b 0 (suc (place x (values es)))) (e ∷ es)
    go true ih = rw (eqb-zero-suc (length es))
    go false ih =
        rw (eqb-suc-suc (place x (values es)) (length es), eqb-suc-zero (place x (values es)))
        (rw (cond_same (eqb (place x (values es)) 0) p) at (ap (λ (l : List Entry). e ∷ l) ih))

pub put_in_put : (p x : ℕ) (es : List Entry) → put_in p x es ≡ put p x 0 es
unfolding put_in new_delta delta_at placed
put_in_put p x es =
    ap (λ (d : ℕ). take (place x (values es)) es ++ entry x 1 d ∷ drop (place x (values es)) es)
    (cond_or (eqb (place x (values es)) 0) (eqb (place x (values es)) (length es)) p)
    ∙ sym (put_placed p x 0 es)

-- ---- `put` keeps what `Entries` says, where p grows to q

sum_put : (p x d : ℕ) (es : List Entry) → sum_g (put p x d es) ≡ sum_g es + 1
unfolding put
sum_put p x d [] = refl
sum_put p x d (e ∷ es) =
    lt-cases (λ (l : List Entry). sum_g l ≡ sum_g (e ∷ es) + 1) x e.v (λ h. omega arith) (λ h. omega (arith, sum_put p x p es))

rising_put : (low p x d : ℕ) (es : List Entry) → low ≤ x → Rising low (values es) → Rising low (values (put p x d es))
unfolding put
rising_put low p x d [] h r = (h, tt)
rising_put low p x d (e ∷ es) h r =
    lt-cases (λ (l : List Entry). Rising low (values l)) x e.v
    (λ k. (h, (omega arith, r.1)))
    (λ k. (r.0, rising_put e.v p x p es k r.1))

each_put : (p q x d : ℕ) (es : List Entry) → p ≤ q → d ≤ q → Each p es → Each q (put p x d es)
unfolding put
each_put p q x d [] h k r = (omega arith, omega arith, tt)
each_put p q x d (e ∷ es) h k r =
    lt-cases (Each q) x e.v
    (λ l. (omega arith, omega arith, (r.0, omega arith, wider es r.2)))
    (λ l. (r.0, omega arith, each_put p q x p es h h r.2))
  where
    wider : (l : List Entry) → Each p l → Each q l
    wider [] c = tt
    wider (f ∷ fs) c = (c.0, omega arith, wider fs c.2)

first_put : (p x : ℕ) (es : List Entry) → FirstExact es → FirstExact (put p x 0 es)
unfolding put
first_put p x [] r = (refl, refl)
first_put p x (e ∷ es) r = lt-cases FirstExact x e.v (λ h. (refl, refl)) (λ h. r)

last_cons_put : (p x d : ℕ) (f : Entry) (es : List Entry) → LastExact (put p x d es) → LastExact (f ∷ put p x d es)
unfolding put
last_cons_put p x d f [] = λ r. r
last_cons_put p x d f (e ∷ es) = lt-cases (λ (l : List Entry). LastExact l → LastExact (f ∷ l)) x e.v (λ h r. r) (λ h r. r)

last_tail : (e : Entry) (es : List Entry) → LastExact (e ∷ es) → LastExact es
last_tail e [] r = tt
last_tail e (f ∷ es) r = r

last_put : (p x d : ℕ) (es : List Entry) → LastExact es → LastExact (put p x d es)
unfolding put
last_put p x d [] r = refl
last_put p x d (e ∷ es) r =
    lt-cases LastExact x e.v (λ h. r) (λ h. last_cons_put p x p e es (last_put p x p es (last_tail e es r)))

pub entries_put : (p q n x : ℕ) (es : List Entry) → p ≤ q → Entries p n es → Entries q (n + 1) (put_in p x es)
entries_put p q n x es h s = rw (put_in_put p x es) (record {
  sorted = rising_put 0 p x 0 es (omega arith) s.sorted;
  each = each_put p q x 0 es h (omega arith) s.each;
  total = omega (arith, sum_put p x 0 es);
  first = first_put p x es s.first;
  last = last_put p x 0 es s.last;
})

-- ---- `put` keeps the entries explained, by the list with x at its end

-- the g + delta of the first entry is at most d + 1
HeadWithin : ℕ → List Entry → Type 0
HeadWithin d [] = Unit {0}
HeadWithin d (e ∷ es) = e.g + e.delta ≤ d + 1

each_head : (p : ℕ) (es : List Entry) → Each p es → HeadWithin p es
unfolding HeadWithin
each_head p [] r = tt
each_head p (e ∷ es) r = r.1

first_head : (es : List Entry) → FirstExact es → HeadWithin 0 es
unfolding HeadWithin
first_head [] r = tt
first_head (e ∷ es) r = omega arith

module _ (X : List ℕ) (x : ℕ) where
  -- all that stand behind the new one move up a rank
  explained-behind : (s t low : ℕ) (es : List Entry) → t ≡ s + 1 → x < low → Rising low (values es)
      → ExplainedFrom X s es → ExplainedFrom (X ++ x ∷ []) t es
  explained-behind s t low [] eq h r k = tt
  explained-behind s t low (e ∷ es) eq h r k = (
    omega (arith, below_more X x e.v, upto_more X x e.v, below_one x e.v (omega arith), upto_one x e.v (omega arith)),
    explained-behind (s + e.g) (t + e.g) e.v es (omega arith) (omega arith) r.1 k.1,
  )

  explained-put : (p d s low : ℕ) (es : List Entry) → Rising low (values es) → Each p es → HeadWithin d es → s ≤ upto X x
      → s + sum_g es ≡ length X → ExplainedFrom X s es → ExplainedFrom (X ++ x ∷ []) s (put p x d es)
  unfolding put HeadWithin
  explained-put p d s low [] r c hd u tot k =
      (omega (arith, below_more X x x, upto_more X x x, below_none x x (omega arith), upto_one x x (omega arith), below_le_upto X x, upto_le_length X x), tt)
  explained-put p d s low (e ∷ es) r c hd u tot k =
      lt-cases (ExplainedFrom (X ++ x ∷ []) s) x e.v
      (λ h. (
        omega (arith, below_more X x x, upto_more X x x, below_none x x (omega arith), upto_one x x (omega arith), below_le_upto X x, upto_le_below X x e.v h),
        explained-behind s (s + 1) e.v (e ∷ es) refl h (omega arith, r.1) k,
      ))
      (λ h. (
        omega (arith, below_more X x e.v, upto_more X x e.v, below_none x e.v h),
        explained-put p p (s + e.g) e.v es r.1 c.2 (each_head p es c.2) (omega (arith, upto_mono X e.v x h)) (omega arith) k.1,
      ))

  pub explained_put_in : (p n : ℕ) (es : List Entry) → Entries p n es → length X ≡ n
      → ExplainedFrom X 0 es → ExplainedFrom (X ++ x ∷ []) 0 (put_in p x es)
  explained_put_in p n es s len k =
      rw (put_in_put p x es) (explained-put p 0 0 0 es s.sorted s.each (first_head es s.first) (omega arith) (omega arith) k)
