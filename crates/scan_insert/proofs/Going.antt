-- Which observations went in: the first ones, up to the refusal if there was one, and they explain the stream. Assumes nothing.
use Rattle.std.specs.Prelude.{Some, None, Result, Ok, Err}
use mathlib.Core.Path.{◌≡◌, refl, ap, ◌∙◌}
use mathlib.Core.List.{List, [], ◌∷◌, ◌++◌, append-nil}
use Prim.Native.Nat.{ℕ, suc, ◌≤◌, ◌<◌}
use native.Mathlib.Omega.{arith}
use lib.ListN.{length, take}
use lib.Seq.{append_snoc}
use Rattle.refusal.specs.declared.Refusal.{Refusal}
use Rattle.fraction.specs.declared.Fraction.{Fraction}
use Rattle.entries.specs.declared.Entry.{Entry}
use Rattle.greenwald_khanna_steps.specs.declared.Stream.{Stream}
use Rattle.greenwald_khanna_steps.specs.Limits.{slots_ok}
use Rattle.greenwald_khanna.specs.Answers.{inserted, inserted_list}
use Rattle.greenwald_khanna.proofs.Kept.{inserted_kept}
use Rattle.noise_floor.specs.Demand3.{given}
use Rattle.noise_floor.proofs.Bounds.{Good}
use Rattle.scan_insert.specs.Inserts.{End, onward, insert_all}

-- k of xs went in behind X, and the stream is good
pub record Went (ε : Fraction) (X xs : List ℕ) (e : End) : Type 0 where
  pub count : ℕ
  pub most : count ≤ length xs
  pub good : Good ε (X ++ take count xs) (given e.ran.stream e.list)
  pub whole : e.ran.refused ≡ None → count ≡ length xs
  pub cut : (number : ℕ) → e.ran.refused ≡ Some number → count < length xs

pub insert_good : (ε : Fraction) (X xs : List ℕ) (st : Stream) (list : List Entry) → Good ε X (given st list) → Went ε X xs (insert_all st list xs)
unfolding insert_all
insert_good ε X [] st list g = record {
  count = 0;
  most = omega arith;
  good = rw (append-nil X) g;
  whole = λ _. refl;
  cut = λ number h. absurd cc;
}
insert_good ε X (x ∷ xs) st list g = go (inserted st list x) refl (λ next h. insert_good ε (X ++ x ∷ []) xs next (inserted_list st list x) h)
  where
    rest : Stream → End
    rest next = insert_all next (inserted_list st list x) xs

    go : (a : Result Stream Refusal) → inserted st list x ≡ a
        → ((next : Stream) → Good ε (X ++ x ∷ []) (given next (inserted_list st list x)) → Went ε (X ++ x ∷ []) xs (rest next))
        → Went ε X (x ∷ xs) (onward a st (inserted_list st list x) rest)
    go (Ok next) e on =
        let k = inserted_kept st list x next e in
        let w = on next (record {
          epsilon = k.epsilon ∙ g.epsilon;
          slots = ap slots_ok k.slots ∙ g.slots;
          sound_is = k.sound_is;
          explained = k.explained X g.explained;
        }) in
        let same = append_snoc X x (take w.count xs) in
        record {
          count = suc w.count;
          most = omega (arith, w.most);
          good = rw same at w.good;
          whole = λ z. ap suc (w.whole z);
          cut = λ number z. let h = w.cut number z in omega arith;
        }
    go (Err why) e on =
        let kept : inserted_list st list x ≡ list = rw e in
        record {
          count = 0;
          most = omega arith;
          good = rw (append-nil X, kept) g;
          whole = λ z. absurd cc;
          cut = λ number z. omega arith;
        }
