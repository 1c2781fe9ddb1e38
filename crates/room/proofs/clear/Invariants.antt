use Rattle.std.proofs.Common.{◌≡◌, take, replicate}
use Rattle.room.proofs.clear.Given as goal

abbrev pub invariant-loop-place : goal.invariant-loop-place
invariant-loop-place g l = take l.place-index l.place-items ≡ replicate l.place-index l.zero
