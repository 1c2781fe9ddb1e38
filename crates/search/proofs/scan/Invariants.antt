use Rattle.std.proofs.Common.{◌≡◌, ◌+◌, map}
use lib.ListN.{drop}
use Rattle.entries.specs.Entry.{values}
use Rattle.entries.specs.Place.{place}
use Rattle.search.proofs.scan.Given as goal

abbrev pub invariant-loop-i : goal.invariant-loop-i
invariant-loop-i g l = l.i + place l.x (drop l.i (values (map g.T.Slot.entry l.list))) ≡ place l.x (values (map g.T.Slot.entry l.list))
