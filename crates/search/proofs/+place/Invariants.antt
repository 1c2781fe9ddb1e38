use lib.ListN.{length}
use Rattle.search.proofs.+place.Given as goal

abbrev pub decreases-place : goal.decreases-place
decreases-place g l = length l.list.now
