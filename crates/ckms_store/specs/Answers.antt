-- What each call but opening answers, and the lent lists that it leaves, on every input. The tests stand in the order of the refusals.
-- Assumes nothing: these are definitions.
use Rattle.std.specs.Prelude.{ℕ, suc, cond, not, List, leb, eqb, length, take, Bool, Result, Ok, Err}
use Rattle.refusal.specs.declared.Refusal.{Refusal}
use Rattle.refusal.specs.declared.Refusal.TheVariants.{Count, Full, Phi, Empty}
use Rattle.fraction.specs.declared.Fraction.{Fraction}
use Rattle.fraction.specs.Allowed.{is_phi}
use Rattle.entries.specs.declared.Entry.{Entry}
use Rattle.entries.specs.Entry.{zero_entry}
use Rattle.entries.specs.Lists.{layout}
use Rattle.ckms_theory.specs.declared.Ranked.{Ranked}
use Rattle.ckms_theory.specs.Walk.{look_up}
use Rattle.ckms_store_steps.specs.declared.Store.{Store}
use Rattle.ckms_store_steps.specs.Answers.{tested, state_of}
use Rattle.ckms_store_steps.specs.Limits.{observations}
use Rattle.ckms_store_work.specs.Changes.{put_in, tidy_in}
use Rattle.ckms_store_look.specs.Query.{scale_of, limit_of}

-- inserting: SLOTS, DAMAGED, COUNT, FULL; else the store with the observation
unfoldable pub inserted : Store → List Entry → List ℕ → ℕ → Result Store Refusal
inserted s list lens x =
    tested s list lens
    (cond (leb observations s.n) (Err Count)
    (cond (leb (length list) s.held) (Err Full)
    (Ok (state_of s (suc s.n) (put_in s list lens x)))))

-- a lent list afterwards: the new one, or as it was where the call is refused
abbrev pub left_by : {A : Type 0} → Result Store Refusal → List A → List A → List A
left_by (Ok s) new old = new
left_by (Err why) new old = old

abbrev pub inserted_list : Store → List Entry → List ℕ → ℕ → List Entry
inserted_list s list lens x = left_by (inserted s list lens x) (layout zero_entry (put_in s list lens x).entries (suc s.held) list) list

abbrev pub inserted_lens : Store → List Entry → List ℕ → ℕ → List ℕ
inserted_lens s list lens x = left_by (inserted s list lens x) (layout 0 (put_in s list lens x).blocks (length (put_in s list lens x).blocks) lens) lens

-- compressing: SLOTS, DAMAGED; else the store compressed
unfoldable pub compressed : Store → List Entry → List ℕ → Result Store Refusal
compressed s list lens = tested s list lens (Ok (state_of s s.n (tidy_in s list lens)))

-- the same of a compression, whose new list has zeros in the places freed and the rest as it was
abbrev pub kept_by : {A : Type 0} → Result Store Refusal → List A → List A → List A
kept_by answer new old = left_by answer new old

abbrev pub compressed_list : Store → List Entry → List ℕ → List Entry
compressed_list s list lens = kept_by (compressed s list lens) (layout zero_entry (tidy_in s list lens).entries s.held list) list

abbrev pub compressed_lens : Store → List Entry → List ℕ → List ℕ
compressed_lens s list lens = kept_by (compressed s list lens) (layout 0 (tidy_in s list lens).blocks s.blocks lens) lens

-- len and is_empty: SLOTS, DAMAGED
unfoldable pub len_of : Store → List Entry → List ℕ → Result ℕ Refusal
len_of s list lens = tested s list lens (Ok s.held)

unfoldable pub empty_of : Store → List Entry → List ℕ → Result Bool Refusal
empty_of s list lens = tested s list lens (Ok (eqb s.held 0))

-- a query: SLOTS, DAMAGED, PHI, EMPTY; else the walk's rank and value
unfoldable pub queried : Store → List Entry → List ℕ → Fraction → Result Ranked Refusal
queried s list lens q =
    tested s list lens
    (cond (not (is_phi q)) (Err Phi)
    (cond (eqb s.n 0) (Err Empty)
    (Ok (look_up (scale_of q) (limit_of s.error q s.n) (take s.held list)))))
