-- Each of these facts has one proof at most, so that a value may hold one of them.
-- Assumes nothing: these are definitions.
use Rattle.std.specs.Prelude.{ℕ, suc, List, [], ◌∷◌, length}
use Rattle.std.specs.Coded.{×_prop, Unit-prop, le_prop, Coded-set, coded_ℕ}
use Rattle.entries.specs.Ranks.{Rising}
use Rattle.histogram_rows.specs.Bins.{Binned}

-- that bounds never fall
pub Rising-prop : (low : ℕ) (bs : List ℕ) → IsProp (Rising low bs)
Rising-prop low [] = Unit-prop
Rising-prop low (b ∷ bs) = ×_prop le_prop (Rising-prop b bs)

-- what the work on lists asks
pub Binned-prop : (bs cs : List ℕ) → IsProp (Binned bs cs)
Binned-prop bs cs p q =
    λ i. record {
      never_fall = Rising-prop 0 bs p.never_fall q.never_fall i;
      long = Coded-set coded_ℕ (length cs) (suc (length bs)) p.long q.long i;
      few = le_prop p.few q.few i;
    }
