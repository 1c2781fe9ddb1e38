-- Where an accepted insert starts, and what it and each half of it leave in the lent list.
-- Assumes nothing: these are definitions.
use Rattle.std.specs.Prelude.{◌≡◌, ℕ, suc, ◌<◌, true, List, length}
use Rattle.fraction.specs.declared.Fraction.{Fraction}
use Rattle.entries.specs.declared.Entry.{Entry}
use Rattle.entries.specs.Entry.{zero_entry}
use Rattle.entries.specs.Lists.{layout}
use Rattle.greenwald_khanna_theory.specs.State.{State, grown, tidied, insert}
use Rattle.greenwald_khanna_steps.specs.declared.Stream.{Stream}
use Rattle.greenwald_khanna_steps.specs.Limits.{observations, slots_ok}
use Rattle.greenwald_khanna_steps.specs.Sound.{sound, state_of}

-- the observations and the summary after an accepted insert, and the stream that holds them
abbrev pub after : Stream → List Entry → ℕ → State
after st list x = insert st.epsilon (state_of st list) x

abbrev pub stream_of : Fraction → State → Stream
stream_of ε s = record { epsilon = ε; n = s.n; held = length s.entries }

-- nothing stands against one observation more
pub record Accepts (st : Stream) (list : List Entry) : Type 0 where
  pub slots : slots_ok (length list) ≡ true
  pub unharmed : sound st list ≡ true
  pub count : st.n < observations
  pub room : st.held < length list

-- the stream holds s, and the list its entries, `most` slots having been held at any moment
pub record Holds (ε : Fraction) (s : State) (most : ℕ) (before : List Entry) (st : Stream) (list : List Entry) : Type 0 where
  pub stream : st ≡ stream_of ε s
  pub entries : list ≡ layout zero_entry s.entries most before

-- the entry put in; the entries compressed; the whole insert
abbrev pub GrowPost : Stream → List Entry → ℕ → Stream → List Entry → Type 0
GrowPost st before x = Holds st.epsilon (grown st.epsilon (state_of st before) x) (suc st.held) before

abbrev pub TidyPost : Stream → List Entry → Stream → List Entry → Type 0
TidyPost st before = Holds st.epsilon (tidied st.epsilon (state_of st before)) st.held before

abbrev pub TakePost : Stream → List Entry → ℕ → Stream → List Entry → Type 0
TakePost st before x = Holds st.epsilon (after st before x) (suc st.held) before
