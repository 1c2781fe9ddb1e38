-- What opening returns meets its contract.
-- Assumes nothing.
use mathlib.Core.Path.{◌≡◌, refl, sym, ◌∙◌}
use mathlib.Core.Bool.{true}
use mathlib.Core.List.{List}
use Prim.Native.Nat.{ℕ}
use native.Mathlib.Omega.{arith}
use lib.ListN.{length, replicate}
use Rattle.std.specs.Prelude.{Ok, Err}
use Rattle.refusal.specs.declared.Refusal.{Refusal}
use Rattle.fraction.specs.declared.Fraction.{Fraction}
use Rattle.fraction.specs.Allowed.{is_error}
use Rattle.entries.specs.declared.Entry.{Entry}
use Rattle.entries.specs.Entry.{zero_entry}
use Rattle.ckms_store_steps.specs.Held.{nothing}
use Rattle.ckms_store_steps.specs.Limits.{size_ok}
use Rattle.ckms_store_steps.specs.Opening.{fresh, opened, OpenPost}
use Rattle.ckms_store_steps.proofs.Kept.{kept_sound}

module _ (error : Fraction) (block : ℕ) (list : List Entry) (lens : List ℕ) where
  pub open_refused : (why : Refusal) → Err why ≡ opened error block list lens → OpenPost error block list lens (Err why) list lens
  open_refused why e = record {
    answered = e;
    entries = rw (sym e);
    blocks = rw (sym e);
    fresh = λ s q. cc;
  }

  -- nothing held keeps every rule
  pub open_fresh : Ok (fresh error block) ≡ opened error block list lens → is_error error ≡ true → size_ok block ≡ true → (list' : List Entry) (lens' : List ℕ) → list' ≡ replicate (length list) zero_entry → lens' ≡ replicate (length lens) 0
      → OpenPost error block list lens (Ok (fresh error block)) list' lens'
  open_fresh o e h list' lens' a b = record {
    answered = o;
    entries = a ∙ rw (sym o);
    blocks = b ∙ rw (sym o);
    fresh = λ s q. let w : fresh error block ≡ s = cc in
        rw (sym w) (kept_sound (fresh error block) 0 nothing list' lens' record { sorted = tt; each = tt; summed = refl; blocks = tt; all = refl } e (omega arith) h (omega arith) (omega arith) refl refl);
  }
