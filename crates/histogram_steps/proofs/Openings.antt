-- What `open` answers over bounds and counts that it takes.
-- Assumes nothing.
use mathlib.Core.Path.{◌≡◌}
use Prim.Native.Nat.{ℕ, suc, ◌≤◌}
use mathlib.Core.Bool.{true}
use mathlib.Core.List.{List}
use borrow.Author.Tests.{le-leb, eq-eqb}
use lib.ListN.{length, replicate}
use Rattle.std.proofs.Common.{Ok}
use Rattle.entries.specs.Order.{rising}
use Rattle.entries.proofs.Order.{rising_means}
use Rattle.histogram_steps.specs.Bounds.{bounds}
use Rattle.histogram_steps.specs.Opening.{open_standing, OpenPost}
use Rattle.histogram_steps.specs.State.{fresh}
use Rattle.histogram_steps.proofs.Keeping.{fresh_sound}

pub fresh_open : (bs cs cs' : List ℕ) → 1 ≤ length bs → length bs ≤ bounds → rising 0 bs ≡ true → length cs ≡ suc (length bs)
    → cs' ≡ replicate (length cs) 0 → OpenPost bs cs (Ok fresh) cs'
fresh_open bs cs cs' a b t e z =
    let f : open_standing bs cs ≡ Ok tt = rw (le-leb 1 (length bs) a, le-leb (length bs) bounds b, t, eq-eqb (length cs) (suc (length bs)) e) in
    record { answer = rw f; counts = rw f z; sound = rw z (fresh_sound bs (length cs) a b (rising_means 0 bs t)) }
