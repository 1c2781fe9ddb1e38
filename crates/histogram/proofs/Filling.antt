-- A histogram that is filled by inserts tells of the observations: each insert adds one more to what it tells.
-- Assumes nothing.
use mathlib.Core.Path.{◌≡◌, refl, sym, ap, ◌∙◌}
use Prim.Native.Nat.{ℕ, zero, suc, ◌+◌, ◌≤◌, ◌<◌}
use mathlib.Core.Bool.{Bool, true, false, cond}
use mathlib.Core.List.{List, [], ◌∷◌, ◌++◌, append-nil}
use native.Mathlib.Omega.{arith}
use borrow.Author.Tests.{eqb-true, eqb-false, lt-ltb}
use lib.Dec.{eqb}
use lib.ListN.{length, get_or, set, take, replicate, length-append, length-set, length-replicate}
use lib.Seq.{get_or-set_same, get_or-set_other, append_snoc}
use Rattle.entries.specs.Ranks.{Rising, upto, Member}
use Rattle.entries.specs.Total.{total}
use Rattle.entries.proofs.Choose.{by_order}
use Rattle.entries.proofs.Counting.{is_below, is_upto, below_one, below_none, upto_one, upto_none, upto_more, upto_le_below, below_mono}
use Rattle.entries.proofs.Sorting.{member_counted}
use Rattle.entries.proofs.Totals.{total_append, total_zeros, total_take}
use Rattle.histogram_rows.specs.declared.Bound.TheVariants.{Finite}
use Rattle.histogram_rows.specs.Bounds.{bin_of}
use Rattle.histogram_rows.specs.Bins.{total_below, counted}
use Rattle.histogram_rows.proofs.Binning.{bin_fits}
use Rattle.histogram_rows.proofs.Choosing.{ending_finite, chosen_below}
use Rattle.std.proofs.Common.{Some}
use Rattle.std.proofs.Common.{Ok}
use Rattle.histogram_steps.specs.Bounds.{allowed}
use Rattle.histogram_steps.specs.State.{observations, largest, plus}
use Rattle.histogram_steps.proofs.Sounds.{allowed_means, sound_holds}
use Rattle.histogram_steps.proofs.Keeping.{fresh_sound, taken_sound}
use Rattle.histogram_steps.proofs.Standings.{sound_fine}
use Rattle.histogram.specs.Answers.{insert_standing}
use Rattle.histogram.specs.Runs.{Held, opened, after_insert, filled, Words, sum_of, in_bin, Tells}
use Rattle.histogram.specs.Laws.{FilledTells}

-- a value's bin is one of those up to the bound u exactly if the value is at most u
same_share : (bs : List ℕ) (u x : ℕ) → Member bs u → is_below (bin_of bs x) (upto bs u) ≡ is_upto x u
same_share bs u x m =
    by_order u x
    (λ h. omega (arith, upto_none x u h, below_none (bin_of bs x) (upto bs u) (upto_le_below bs u x h)))
    (λ h. let b : bin_of bs x < upto bs u = omega (arith, below_mono bs x u h, member_counted bs u m.0 m.1 m.2) in
    omega (arith, upto_one x u h, below_one (bin_of bs x) (upto bs u) b))

-- one more in one place, seen by a sum over the first places and by a place
step_below : (k e : ℕ) → is_below (suc k) (suc e) ≡ is_below k e
step_below k e =
    by_order k e
    (λ h. omega (arith, below_one k e h, below_one (suc k) (suc e) (omega arith)))
    (λ h. omega (arith, below_none k e h, below_none (suc k) (suc e) (omega arith)))

raise_take : (cs : List ℕ) (k e : ℕ) → k < length cs → total (take e (set cs k (suc (get_or cs k 0)))) ≡ total (take e cs) + is_below k e
raise_take [] k e h = absurd (omega arith)
raise_take (c ∷ cs) k zero h = omega (arith, below_none k 0 (omega arith))
raise_take (c ∷ cs) zero (suc e) h = omega (arith, below_one 0 (suc e) (omega arith))
raise_take (c ∷ cs) (suc k) (suc e) h = omega (arith, raise_take cs k e (omega arith), step_below k e)

raise_at : (cs : List ℕ) (k j : ℕ) → k < length cs → get_or (set cs k (suc (get_or cs k 0))) j 0 ≡ get_or cs j 0 + cond (eqb k j) 1 0
raise_at cs k j h = go (eqb k j) refl
  where
    go : (t : Bool) → eqb k j ≡ t → get_or (set cs k (suc (get_or cs k 0))) j 0 ≡ get_or cs j 0 + cond t 1 0
    go true q = let e : k ≡ j = eqb-true k j q in rw (← e) (omega (arith, get_or-set_same cs k (suc (get_or cs k 0)) 0 h))
    go false q = omega (arith, get_or-set_other cs k j (suc (get_or cs k 0)) 0 (λ e. eqb-false k j q (sym e)))

-- one more observation
in_bin_more : (bs X : List ℕ) (x k : ℕ) → in_bin bs (X ++ x ∷ []) k ≡ in_bin bs X k + cond (eqb (bin_of bs x) k) 1 0
in_bin_more bs [] x k = omega arith
in_bin_more bs (y ∷ ys) x k = omega (arith, in_bin_more bs ys x k)

sum_more : (X : List ℕ) (x : ℕ) → plus (sum_of X) x ≡ sum_of (X ++ x ∷ [])
sum_more [] x = ap Some (omega arith)
sum_more (y ∷ ys) x = ap Some (omega (arith, total_append ys (x ∷ [])))

below_is : (bs cs : List ℕ) (u : ℕ) → Rising 0 bs → length cs ≡ suc (length bs) → total_below bs cs (Finite u) ≡ total (take (upto bs u) cs)
below_is bs cs u r e = ap total (chosen_below (Finite u) 0 bs cs r e ∙ ap (λ (k : ℕ). take k cs) (ending_finite bs u))

tells_more : (bs X : List ℕ) (s : Held) (x : ℕ) → Tells bs X s → x ≤ largest → length X < observations → Tells bs (X ++ x ∷ []) (after_insert bs s x)
tells_more bs X s x t w n =
    let cs : List ℕ = s.counts in
    let k : ℕ = bin_of bs x in
    let b : k < length cs = bin_fits bs cs x t.fits in
    let f : insert_standing s.state bs cs ≡ Ok tt =
    rw (
      sound_fine s.state bs cs t.fits (sound_holds s.state bs cs t.sound),
      lt-ltb s.state.count observations (omega (arith, t.count)),
    ) in
    let long : length (counted bs cs x) ≡ suc (length bs) = length-set cs k (suc (get_or cs k 0)) ∙ t.fits in
    rw f (record {
      fits = long;
      sound = taken_sound s.state bs cs x t.fits t.sound (omega (arith, t.count)) w;
      count = omega (arith, t.count, length-append X (x ∷ []));
      sum = ap (λ z. plus z x) t.sum ∙ sum_more X x;
      bins = λ j. omega (arith, raise_at cs k j b, t.bins j, in_bin_more bs X x j);
      below = λ u m.
          omega (
            arith,
            below_is bs (counted bs cs x) u t.sound.never_fall long,
            raise_take cs k (upto bs u) b,
            same_share bs u x m,
            below_is bs cs u t.sound.never_fall t.fits,
            t.below u m,
            upto_more X x u,
          );
    })

tells_all : (bs X : List ℕ) (s : Held) (Y : List ℕ) → Tells bs X s → Words Y → length X + length Y ≤ observations → Tells bs (X ++ Y) (filled bs s Y)
unfolding filled
tells_all bs X s [] t w n = rw (append-nil X) t
tells_all bs X s (y ∷ ys) t w n =
    rw (← append_snoc X y ys)
    (tells_all bs (X ++ y ∷ []) (after_insert bs s y) ys (tells_more bs X s y t w.0 (omega arith)) w.1 (omega (arith, length-append X (y ∷ []))))

-- fresh
zeros_at : (n k : ℕ) → ◌≡◌ {A = ℕ} (get_or (replicate n 0) k 0) 0
zeros_at zero k = refl
zeros_at (suc n) zero = refl
zeros_at (suc n) (suc k) = zeros_at n k

tells_nothing : (bs : List ℕ) → allowed bs ≡ true → Tells bs [] (opened bs)
tells_nothing bs a =
    let b = allowed_means bs a in
    let n : ℕ = suc (length bs) in
    record {
      fits = length-replicate n 0;
      sound = fresh_sound bs n b.0 b.1 b.2;
      count = refl;
      sum = refl;
      bins = zeros_at n;
      below = λ u m.
          omega (
            arith,
            below_is bs (replicate n 0) u b.2 (length-replicate n 0),
            total_take (upto bs u) (replicate n 0),
            total_zeros n,
          );
    }

pub filled_tells : FilledTells
unfolding FilledTells
filled_tells bs X a w n = tells_all bs [] (opened bs) X (tells_nothing bs a) w (omega arith)
