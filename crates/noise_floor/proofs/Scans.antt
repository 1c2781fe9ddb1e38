-- A whole scan meets the contract of `floor`: the three calls' contracts put together, and demand 3 about the answer.
-- Assumes nothing.
use Rattle.std.specs.Prelude.{Result, Ok}
use mathlib.Core.Path.{◌≡◌, sym, ap, ◌∙◌}
use Prim.Native.Nat.{ℕ}
use mathlib.Core.List.{List}
use Rattle.refusal.specs.declared.Refusal.{Refusal}
use Rattle.fraction.specs.declared.Fraction.{Fraction}
use Rattle.entries.specs.declared.Entry.{Entry}
use Rattle.greenwald_khanna_steps.specs.declared.Stream.{Stream}
use Rattle.greenwald_khanna_steps.specs.Opening.{opened, opened_list, OpenPost}
use Rattle.greenwald_khanna.specs.Posts.{QuantilePost}
use Rattle.noise_floor.specs.Demand3.{Given, given, run, asked, Demand3}
use Rattle.noise_floor.specs.Floor.{FloorPost}
use Rattle.noise_floor.proofs.Bounds.{demand3}

module _ (ε : Fraction) (before : List Entry) (xs : List ℕ) (φ : Fraction) (o : Result Stream Refusal) (first : List Entry) (p : OpenPost ε before o first) where
  module _ (st : Stream) (e : o ≡ Ok st) (last : Stream) (list : List Entry) (answer : Result ℕ Refusal) where
    pub floor_answered : given last list ≡ run (given st first) xs → QuantilePost last list φ answer → FloorPost ε before xs φ answer list
    unfolding Demand3
    floor_answered g q =
        let r : opened ε before ≡ Ok st = sym p.answered ∙ e in
        let start : Given = given st (opened_list ε before) in
        let k : given last list ≡ run start xs = g ∙ ap (λ (l : List Entry). run (given st l) xs) p.left in
        let a : answer ≡ asked (run start xs) φ = q.answered ∙ ap (λ (at : Given). asked at φ) k in
        record {
          answered = a ∙ rw r;
          left = ap (λ (at : Given). at.list) k ∙ rw r;
          bound = λ other m.
              let same : st ≡ other = cc (r, m) in
              rw (← same, a) (demand3 ε before st r xs φ);
        }
