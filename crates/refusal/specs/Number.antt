-- The refusal table: the number of each refusal, and of the refusal in an answer.
-- Assumes nothing: these are definitions.
use Rattle.std.specs.Prelude.{ℕ, Result, Ok, Err}
use Rattle.refusal.specs.declared.Refusal.{Refusal}
use Rattle.refusal.specs.declared.Refusal.TheVariants.{Slots, Epsilon, Block, Damaged, Count, Full, Phi, Empty, BoundsEmpty, BoundsMany, BoundsOrder, File}

abbrev pub number_of : Refusal → ℕ
number_of Slots = 1
number_of Epsilon = 2
number_of Block = 3
number_of Damaged = 4
number_of Count = 5
number_of Full = 6
number_of Phi = 7
number_of Empty = 8
number_of BoundsEmpty = 9
number_of BoundsMany = 10
number_of BoundsOrder = 11
number_of File = 12

-- the number of the refusal that an answer is, 0 where it is none
abbrev pub number_in : {T : Type 0} → Result T Refusal → ℕ
number_in (Ok x) = 0
number_in (Err why) = number_of why
