-- No refusal has the number 0, which the calls' numbers keep for an answer.
-- Assumes nothing.
use Prim.Native.Nat.{◌≤◌}
use native.Mathlib.Omega.{arith}
use Rattle.refusal.specs.declared.Refusal.{Refusal}
use Rattle.refusal.specs.declared.Refusal.TheVariants.{Slots, Epsilon, Block, Damaged, Count, Full, Phi, Empty, BoundsEmpty, BoundsMany, BoundsOrder, File}
use Rattle.refusal.specs.Number.{number_of}

pub numbered : (why : Refusal) → 1 ≤ number_of why
numbered Slots = omega arith
numbered Epsilon = omega arith
numbered Block = omega arith
numbered Damaged = omega arith
numbered Count = omega arith
numbered Full = omega arith
numbered Phi = omega arith
numbered Empty = omega arith
numbered BoundsEmpty = omega arith
numbered BoundsMany = omega arith
numbered BoundsOrder = omega arith
numbered File = omega arith
