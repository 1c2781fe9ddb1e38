-- Demand 3, in the order's own terms.
-- Open a stream, without refusal, with a rational error ε, and insert any observations, some perhaps refused, each call given the state and the
-- lent list that the call before left. Let n ≥ 1 be accepted. For every rational φ from 0 to 1, with r = ⌊φn⌋ and e = ⌊εn⌋, the quantile given is
-- an accepted observation which, among all accepted ones sorted, stands at some rank from max(1, r - e - 1) to max(1, r + e).
-- Assumes nothing: these are definitions.
use Rattle.std.specs.Prelude.{◌≡◌, true, ℕ, ◌≤◌, List, [], ◌∷◌, length, Result, Ok, Err}
use Rattle.std.specs.Result.{result_unwrap_or}
use Rattle.refusal.specs.declared.Refusal.{Refusal}
use Rattle.fraction.specs.declared.Fraction.{Fraction}
use Rattle.fraction.specs.Allowed.{is_phi}
use Rattle.fraction.specs.Products.{e_of}
use Rattle.entries.specs.declared.Entry.{Entry}
use Rattle.greenwald_khanna_theory.specs.Answered.{WithinRanks}
use Rattle.greenwald_khanna_theory.specs.State.{rank}
use Rattle.greenwald_khanna_steps.specs.declared.Stream.{Stream}
use Rattle.greenwald_khanna_steps.specs.Opening.{opened, opened_list}
use Rattle.greenwald_khanna.specs.Answers.{inserted, inserted_list, quantiled}

-- what a call is given: a state and a lent list
pub record Given : Type 0 where
  pub stream : Stream
  pub list : List Entry

abbrev pub given : Stream → List Entry → Given
given st list = record { stream = st; list = list }

-- the stream that an answer leaves: its own, or the one before where the insert is refused
abbrev pub stream_after : Result Stream Refusal → Stream → Stream
stream_after answer st = result_unwrap_or answer st

-- what the insert of x leaves to the next call
abbrev pub offered : Given → ℕ → Given
offered at x = given (stream_after (inserted at.stream at.list x) at.stream) (inserted_list at.stream at.list x)

-- all inserts, one after another
unfoldable pub run : Given → List ℕ → Given
run at [] = at
run at (x ∷ xs) = run (offered at x) xs

-- x before the others, where its insert was accepted
abbrev pub taken_by : Result Stream Refusal → ℕ → List ℕ → List ℕ
taken_by (Ok next) x xs = x ∷ xs
taken_by (Err why) x xs = xs

-- the observations that were accepted
unfoldable pub accepted : Given → List ℕ → List ℕ
accepted at [] = []
accepted at (x ∷ xs) = taken_by (inserted at.stream at.list x) x (accepted (offered at x) xs)

-- the answer is a value within the ranks of X
pub record Answered (X : List ℕ) (r e : ℕ) (answer : Result ℕ Refusal) : Type 0 where
  pub value : ℕ
  pub answers : answer ≡ Ok value
  pub within : WithinRanks X r e value

-- n ≥ 1 were accepted, and φ is from 0 to 1: then the answer is within the ranks of the accepted X, with r = ⌊φn⌋ and e = ⌊εn⌋
abbrev pub Bounded : Fraction → Fraction → List ℕ → Result ℕ Refusal → Type 0
Bounded ε φ X answer = 1 ≤ length X → is_phi φ ≡ true → Answered X (rank φ (length X)) (e_of ε (length X)) answer

-- the quantile asked of what the last insert left
abbrev pub asked : Given → Fraction → Result ℕ Refusal
asked at φ = quantiled at.stream at.list φ

unfoldable pub Demand3 : Type 0
Demand3 =
    (ε : Fraction) (list : List Entry) (st : Stream) → opened ε list ≡ Ok st
    → (xs : List ℕ) (φ : Fraction) → Bounded ε φ (accepted (given st (opened_list ε list)) xs) (asked (run (given st (opened_list ε list)) xs) φ)
