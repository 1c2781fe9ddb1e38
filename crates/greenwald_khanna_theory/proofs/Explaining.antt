-- Counting and ranks say the same of a list that explains a stream; g copies of each value explain a sound one; and what single calls promise.
-- Assumes nothing.
use mathlib.Core.Path.{◌≡◌, refl}
use Prim.Native.Nat.{ℕ, zero, suc, ◌+◌, ◌≤◌, ◌<◌, max}
use mathlib.Core.List.{List, [], ◌∷◌, ◌++◌}
use native.Mathlib.Omega.{arith}
use lib.ListN.{length, replicate, length-append, length-replicate}
use Rattle.entries.proofs.Counting.{below_none, upto_one, below_append, upto_append, below_le_upto, upto_le_length}
use Rattle.entries.proofs.Sorting.{stands, stands_counts}
use Rattle.entries.specs.declared.Entry.{Entry}
use Rattle.entries.specs.Entry.{values, sum_g}
use Rattle.entries.specs.Ranks.{Rising, below, upto}
use Rattle.fraction.proofs.Laws.{e_le}
use Rattle.fraction.specs.declared.Fraction.{Fraction}
use Rattle.fraction.specs.Products.{p_of}
use Rattle.greenwald_khanna_theory.specs.Explains.{StandsNear, StandFrom, Explains}
use Rattle.greenwald_khanna_theory.specs.Promises.{Sound, FreshSound, InsertKeeps, TidiedKeeps, QuantileAnswers, EachExplained, HeldWithin}
use Rattle.greenwald_khanna_theory.specs.State.{State, fresh, tidied, insert, rank, quantile}
use Rattle.greenwald_khanna_theory.proofs.Bound.{Ruled, ruled_fresh, ruled_tidied, ruled_insert, counted_tidied, counted_insert, answer_within}
use Rattle.greenwald_khanna_theory.proofs.Counts.{Explained, ExplainedFrom, Counted}
use Rattle.greenwald_khanna_theory.proofs.Rules.{Each, entries_true, true_entries}

-- counting and ranks

rank_of : (X : List ℕ) (r v d : ℕ) → Explained X r v d → StandsNear X r v d
rank_of X r v d h = record {
  rank = max r (below X v + 1);
  from = omega arith;
  to = omega arith;
  stands = stands X v (max r (below X v + 1)) (omega arith) (omega arith);
}

counts_of : (X : List ℕ) (r v d : ℕ) → StandsNear X r v d → Explained X r v d
counts_of X r v d h =
    let c : (below X v < h.rank) × (h.rank ≤ upto X v) = stands_counts X v h.rank h.stands in
    omega arith

ranks_of : (X : List ℕ) (s : ℕ) (es : List Entry) → ExplainedFrom X s es → StandFrom X s es
ranks_of X s [] h = tt
ranks_of X s (e ∷ es) h = (rank_of X (s + e.g) e.v e.delta h.0, ranks_of X (s + e.g) es h.1)

counts_from : (X : List ℕ) (s : ℕ) (es : List Entry) → StandFrom X s es → ExplainedFrom X s es
counts_from X s [] h = tt
counts_from X s (e ∷ es) h = (counts_of X (s + e.g) e.v e.delta h.0, counts_from X (s + e.g) es h.1)

pub by_rank : (X : List ℕ) (s : State) → Counted X s → Explains X s
by_rank X s h = record { members = h.members; entries = ranks_of X 0 s.entries h.entries }

pub by_count : (X : List ℕ) (s : State) → Explains X s → Counted X s
by_count X s h = record { members = h.members; entries = counts_from X 0 s.entries h.entries }

-- g copies of each value explain a sound stream

pub copies : List Entry → List ℕ
copies [] = []
copies (e ∷ es) = replicate e.g e.v ++ copies es

replicate_upto : (g v w : ℕ) → v ≤ w → upto (replicate g v) w ≡ g
replicate_upto zero v w h = refl
replicate_upto (suc g) v w h = omega (arith, upto_one v w h, replicate_upto g v w h)

replicate_below : (g v w : ℕ) → w ≤ v → below (replicate g v) w ≡ 0
replicate_below zero v w h = refl
replicate_below (suc g) v w h = omega (arith, below_none v w h, replicate_below g v w h)

length_copies : (es : List Entry) → length (copies es) ≡ sum_g es
unfolding copies
length_copies [] = refl
length_copies (e ∷ es) = omega (arith, length-append (replicate e.g e.v) (copies es), length-replicate e.g e.v, length_copies es)

copies_below : (low : ℕ) (es : List Entry) (v : ℕ) → Rising low (values es) → v ≤ low → below (copies es) v ≡ 0
unfolding copies
copies_below low [] v r h = refl
copies_below low (e ∷ es) v r h =
    omega (arith, below_append (replicate e.g e.v) (copies es) v, replicate_below e.g e.v v (omega arith), copies_below e.v es v r.1 (omega arith))

explained_copies : (X : List ℕ) (p s low : ℕ) (es : List Entry) → Rising low (values es) → Each p es
    → ((w : ℕ) → low ≤ w → s + upto (copies es) w ≤ upto X w) → ((w : ℕ) → below X w ≤ s + below (copies es) w) → ExplainedFrom X s es
unfolding copies
explained_copies X p s low [] r c hu hb = tt
explained_copies X p s low (e ∷ es) r c hu hb =
    let rep : List ℕ = replicate e.g e.v in (
      omega (
        arith,
        hu e.v (omega arith),
        hb e.v,
        upto_append rep (copies es) e.v,
        below_append rep (copies es) e.v,
        replicate_upto e.g e.v e.v (omega arith),
        replicate_below e.g e.v e.v (omega arith),
        copies_below e.v es e.v r.1 (omega arith),
      ),
      explained_copies X p (s + e.g) e.v es r.1 c.2
          (λ w h. omega (arith, hu w (omega arith), upto_append rep (copies es) w, replicate_upto e.g e.v w h))
          (λ w. omega (arith, hb w, below_append rep (copies es) w, below_le_upto rep w, upto_le_length rep w, length-replicate e.g e.v)),
    )

counted_copies : (ε : Fraction) (s : State) → Ruled ε s → Counted (copies s.entries) s
counted_copies ε s h = record {
  members = omega (arith, length_copies s.entries, h.total);
  entries = explained_copies (copies s.entries) _ 0 0 s.entries h.sorted h.each (λ w k. omega arith) (λ w. omega arith);
}

-- what the single calls promise

pub rules : (ε : Fraction) (s : State) → Sound ε s → Ruled ε s
rules ε s h = entries_true (p_of ε s.n) s.n s.entries h

sound : (ε : Fraction) (s : State) → Ruled ε s → Sound ε s
sound ε s h = true_entries (p_of ε s.n) s.n s.entries h

pub fresh_sound : FreshSound
unfolding FreshSound
fresh_sound ε = (sound ε fresh (ruled_fresh ε), record { members = refl; entries = tt })

pub insert_keeps : InsertKeeps
unfolding InsertKeeps
insert_keeps ε s x h = (
  sound ε (insert ε s x) (ruled_insert ε s x (rules ε s h)),
  λ X k. by_rank (X ++ x ∷ []) (insert ε s x) (counted_insert ε X s x (rules ε s h) (by_count X s k)),
)

pub tidied_keeps : TidiedKeeps
unfolding TidiedKeeps
tidied_keeps ε s h = (
  sound ε (tidied ε s) (ruled_tidied ε s (rules ε s h)),
  λ X k. by_rank X (tidied ε s) (counted_tidied ε X s (by_count X s k)),
)

pub quantile_answers : QuantileAnswers
unfolding QuantileAnswers quantile
quantile_answers ε he s h one φ hφ X k =
    answer_within ε X s (rules ε s h) (by_count X s k) one (rank φ s.n) (e_le φ s.n hφ)

pub each_explained : EachExplained
unfolding EachExplained
each_explained ε s h = (copies s.entries, by_rank (copies s.entries) s (counted_copies ε s (rules ε s h)))

held_le : (p : ℕ) (es : List Entry) → Each p es → length es ≤ sum_g es
held_le p [] c = omega arith
held_le p (e ∷ es) c = omega (arith, held_le p es c.2)

pub held_within : HeldWithin
unfolding HeldWithin
held_within ε s h =
    let r : Ruled ε s = rules ε s h in
    (r.total, omega (arith, held_le (p_of ε s.n) s.entries r.each, r.total))
