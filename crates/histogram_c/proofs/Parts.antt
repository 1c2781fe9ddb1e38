-- Where the bins between two bounds stand among the counts.
-- Assumes nothing.
use mathlib.Core.Path.{◌≡◌, refl, sym, ap, ◌∙◌}
use Prim.Native.Nat.{ℕ, ◌-◌, ◌≤◌}
use mathlib.Core.List.{List, []}
use native.Mathlib.Omega.{arith}
use borrow.Author.Tests.{ne_eqb}
use lib.ListN.{length, take, drop, length-drop}
use lib.Seq.{length-take-le}
use Rattle.std.proofs.Common.{Result, Ok, Err}
use Rattle.refusal.specs.declared.Refusal.{Refusal}
use Rattle.refusal.specs.Number.{number_of}
use Rattle.refusal.proofs.Numbers.{numbered}
use Rattle.histogram_rows.specs.declared.Bound.{Bound}
use Rattle.histogram_steps.specs.declared.Histogram.{Histogram}
use Rattle.histogram_rows.specs.Bounds.{ending}
use Rattle.histogram_rows.specs.Bins.{bins_between}
use Rattle.histogram_steps.specs.Standing.{standing, left}
use Rattle.histogram.specs.Answers.{number, bins_answer, bins_number}
use Rattle.histogram_steps.proofs.Standings.{Ready, ready}
use Rattle.histogram_rows.proofs.Choosing.{ending_le, between_part}
use Rattle.histogram_c.specs.Posts.{BinsPost}

module _ (h : Histogram) (bs cs : List ℕ) where
  pub bins_refused : (l u : Bound) (why : Refusal) {k : ℕ} → k ≡ number_of why → bins_number h bs cs ≡ number_of why
      → BinsPost h bs cs l u (record { refusal = k; start = 0; length = 0 })
  bins_refused l u why {k} n e = go (standing h bs cs) refl
    where
      go : (s : Result (Unit {0}) Refusal) → standing h bs cs ≡ s → BinsPost h bs cs l u (record { refusal = k; start = 0; length = 0 })
      go (Ok x) q = absurd (omega (arith, numbered why, sym e ∙ ap number q))
      go (Err w) q = record {
        refused = n ∙ sym e;
        begins = rw (e, ne_eqb (number_of why) 0 (λ z. omega (arith, numbered why)));
        long = ap (λ (s : Result (Unit {0}) Refusal). length (left s (bins_between bs cs l u) [])) (sym q);
        within = omega arith;
        there = ap (λ (s : Result (Unit {0}) Refusal). left s (bins_between bs cs l u) []) (sym q);
      }

  -- the number 0 is that of no refusal
  pub fine : bins_number h bs cs ≡ 0 → Ready h bs cs
  fine z = go (standing h bs cs) refl
    where
      go : (s : Result (Unit {0}) Refusal) → standing h bs cs ≡ s → Ready h bs cs
      go (Ok x) q = ready h bs cs {r = standing h bs cs} refl q
      go (Err why) q = absurd (omega (arith, numbered why, sym z ∙ ap number q))

  -- the bins between l and u are a part of the counts, as many as there are ends between
  pub bins_given : (l u : Bound) (part : List ℕ) (start : ℕ) → bins_number h bs cs ≡ 0 → part ≡ bins_answer h bs cs l u → start ≡ ending bs l
      → BinsPost h bs cs l u (record { refusal = 0; start = start; length = length part })
  bins_given l u part start z p s =
      let r : Ready h bs cs = fine z in
      let is : bins_answer h bs cs l u ≡ take (ending bs u - ending bs l) (drop (ending bs l) cs) =
      rw r.fine (between_part bs cs l u r.sound_is.never_fall r.long) in
      let fits : ending bs u - ending bs l ≤ length (drop (ending bs l) cs) = omega (arith, length-drop (ending bs l) cs, ending_le bs u, r.long) in
      let long : length (bins_answer h bs cs l u) ≡ ending bs u - ending bs l =
      ap length is ∙ length-take-le (ending bs u - ending bs l) (drop (ending bs l) cs) fits in
      rw (p, s) (record {
        refused = sym z;
        begins = rw z;
        long = refl;
        within = omega (arith, long, ending_le bs u, ending_le bs l, r.long);
        there = rw long (sym is);
      })
