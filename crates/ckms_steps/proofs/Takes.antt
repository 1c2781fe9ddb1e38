-- An accepted insert: the record made anew over the store after it, and that it is sound. Assumes nothing.
use mathlib.Core.Path.{◌≡◌, sym, ap, ◌∙◌}
use Prim.Native.Nat.{ℕ, suc, ◌+◌, ◌<◌}
use native.Mathlib.Nat.{mod-lt, le-max_left}
use native.Mathlib.Omega.{arith}
use mathlib.Core.Bool.{true, ◌&&◌, cond, and-eq-true_iff}
use mathlib.Core.List.{List}
use lib.Dec.{eqb, ltb}
use lib.ListN.{length}
use Rattle.std.specs.Prelude.{Option, Some}
use borrow.Author.Tests.{lt-ltb, ltb-true}
use Rattle.fraction.specs.declared.Fraction.{Fraction}
use Rattle.fraction.specs.Products.{period}
use Rattle.entries.specs.declared.Entry.{Entry}
use Rattle.entries.specs.Entry.{zero_entry}
use Rattle.entries.specs.Lists.{layout}
use Rattle.mean.specs.declared.Mean.{Mean}
use Rattle.ckms_store_steps.specs.declared.Store.{Store}
use Rattle.ckms_store_steps.specs.Answers.{state_of}
use Rattle.ckms_store_work.specs.Steps as stepping
use Rattle.ckms_store_steps.specs.Sound as sounding
use Rattle.ckms_store_work.specs.Changes.{tidy, put_in}
use Rattle.ckms_store_grow.specs.Grow.{GrowPost}
use Rattle.ckms_steps.specs.declared.CKMS.{CKMS}
use Rattle.ckms_steps.specs.State.{block, samples, modulus, count_on, cma_after, last_sound, cma_sound, record_sound, sound}
use Rattle.ckms_steps.specs.Steps as ckms
use Rattle.ckms_steps.specs.Steps.{CmaPost, Ready, TakePost}

-- the counter stays below its modulus
count_below : (c : CKMS) → count_on c.error c.inserts < modulus c.error
count_below c = mod-lt (c.inserts + 1) (le-max_left 1 (period c.error))

-- the parts of a sound state
pub sound_parts : (c : CKMS) (list : List Entry) (lens : List ℕ) → sound c list lens ≡ true → (sounding.sound (samples c) list lens ≡ true) × (c.inserts < modulus c.error) × (cma_sound c.n c.cma ≡ true)
sound_parts c list lens h =
    let a = (and-eq-true_iff (sounding.sound (samples c) list lens) (record_sound c)).0 h in
    let b = (and-eq-true_iff (ltb c.inserts (modulus c.error)) (last_sound c.n c.last_in && cma_sound c.n c.cma)).0 a.1 in
    (a.0, ltb-true c.inserts (modulus c.error) b.0, ((and-eq-true_iff (last_sound c.n c.last_in) (cma_sound c.n c.cma)).0 b.1).1)

pub store_ready : (c : CKMS) (list : List Entry) (lens : List ℕ) → Ready c list lens → stepping.Ready (samples c) list lens
store_ready c list lens r = record { allowed = r.allowed; sound = (sound_parts c list lens r.sound).0 }

-- the record made anew: the error, the store after the insert, the counter, the value and the mean
abbrev pub record_of : Fraction → Store → ℕ → ℕ → Option Mean → CKMS
record_of error r i x m = record { error = error; n = r.n; held = r.held; blocks = r.blocks; inserts = i; last_in = Some x; cma = m }

pub take_post : (c : CKMS) (s r : Store) (i x n : ℕ) (m : Option Mean) (list list' : List Entry) (lens lens' : List ℕ) → s ≡ samples c → i ≡ count_on c.error c.inserts → n ≡ suc c.n
    → CmaPost c.cma x n m → sound c list lens ≡ true → GrowPost s i list lens x r list' lens' → TakePost c list lens x (record_of c.error r i x m) list' lens'
take_post c s r i x n m list list' lens lens' e f k p h g = record {
  state = state;
  entries = g.entries ∙ (λ t. layout zero_entry (held t).entries (suc (e t).held) list);
  blocks = g.blocks ∙ (λ t. layout 0 (held t).blocks (length (put_in (e t) list lens x).blocks) lens);
  kept = rw (ap (λ (u : Store). sounding.sound u list' lens') whole ∙ g.kept) kept;
  ranged = λ w. p.ranged c.n (sym k) (sound_parts c list lens h).2 w;
}
  where
    -- what is held, over the store within
    held : cond (eqb i 0) (tidy s.error s.block (put_in s list lens x)) (put_in s list lens x) ≡ ckms.taken_in c list lens x
    held = λ t. cond (eqb (f t) 0) (tidy (e t).error (e t).block (put_in (e t) list lens x)) (put_in (e t) list lens x)

    -- the store after it, and so its fields
    after : r ≡ state_of (samples c) (suc c.n) (ckms.taken_in c list lens x)
    after = g.state ∙ (λ t. state_of (e t) (suc (e t).n) (held t))

    state : record_of c.error r i x m ≡ ckms.state_of c (ckms.taken_in c list lens x) x
    state =
        let q : m ≡ cma_after c.cma x (suc c.n) = p.answered ∙ ap (cma_after c.cma x) k in
        λ t. record_of c.error (after t) (f t) x (q t)

    whole : samples (record_of c.error r i x m) ≡ r
    whole =
        let d : c.error ≡ r.error = sym (ap (λ (u : Store). u.error) after) in
        let b : block ≡ r.block = sym (ap (λ (u : Store). u.block) after) in
        λ t. record { error = d t; n = r.n; held = r.held; block = b t; blocks = r.blocks }

    kept : record_sound (record_of c.error r i x m) ≡ true
    kept =
        rw (
          ap (λ (u : Store). u.n) after,
          f,
          lt-ltb (count_on c.error c.inserts) (modulus c.error) (count_below c),
          lt-ltb 0 (suc c.n) (omega arith),
        )
        (ap (λ (j : ℕ). cma_sound j m) (sym k) ∙ p.kept c.n (sym k) (sound_parts c list lens h).2)
