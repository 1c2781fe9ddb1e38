-- `scan_put::put` meets its contract: the text is the part that was copied, and the rest is untouched.
-- Assumes nothing.
use Rattle.std.proofs.Common.{refl, rules}
use Rattle.std.proofs.lemmas.Slice.{overwrites}
use Rattle.scan_put.proofs.put.Goals as goal

pub returns : goal.returns
returns c = record { place = refl; bytes = search (rules, overwrites); rest = search (rules, overwrites) }
