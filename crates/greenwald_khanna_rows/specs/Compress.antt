-- What compression does to the entries of a list: one turn of the backward pass, the pass down to a place, and the whole.
-- Assumes nothing: these are definitions.
use Rattle.std.specs.Prelude.{◌≡◌, ℕ, ◌+◌, ◌-◌, ◌≤◌, ◌<◌, cond, List, ◌++◌, length, get_or, set, take, drop, replicate}
use Rattle.entries.specs.declared.Entry.{Entry}
use Rattle.entries.specs.Entry.{entry, zero_entry}
use Rattle.greenwald_khanna_theory.specs.Summary.{mergeable, merged, compress}

-- the entry at place i
abbrev pub at : List Entry → ℕ → Entry
at es i = get_or es i zero_entry

-- nx with the g of the deleted e
abbrev pub joined : Entry → Entry → Entry
joined e nx = entry nx.v (e.g + nx.g) nx.delta

-- the entry at i goes into the one at w, or is put before it; r is the place of the first entry that is done
pub record TurnPost (p i w : ℕ) (es : List Entry) (r : ℕ) (after : List Entry) : Type 0 where
  pub place : r ≡ cond (mergeable p (at es i) (at es w)) w (w - 1)
  pub list : after ≡ cond (mergeable p (at es i) (at es w)) (set es w (joined (at es i) (at es w))) (set es (w - 1) (at es i))

-- the backward pass has done the places from i on: what is left of them stands from place w on
pub record MergedFrom (p : ℕ) (es : List Entry) (i w : ℕ) (after : List Entry) : Type 0 where
  pub low : 0 < i
  pub order : i ≤ w
  pub high : w < length es
  pub same_length : length after ≡ length es
  pub front : take i after ≡ take i es
  pub done : drop w after ≡ merged p (drop i es)

-- the entries are compressed to r, and zeros stand in the places freed
pub record CompressPost (p : ℕ) (es : List Entry) (r : ℕ) (after : List Entry) : Type 0 where
  pub count : r ≡ length (compress p es)
  pub list : after ≡ compress p es ++ replicate (length es - length (compress p es)) zero_entry
