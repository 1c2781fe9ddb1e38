-- The state of a CKMS that words make, and the words of a state.
-- Assumes nothing: these are definitions.
use Rattle.std.specs.Prelude.{ℕ, ◌≤◌, Bool, false, not, cond, ◌&&◌, leb, eqb, pos, Float, Option, Some, None}
use Rattle.std.specs.Float.{nan, inf, fin}
use Rattle.ckms_steps.specs.declared.CKMS.{CKMS}
use Rattle.mean.specs.declared.Mean.{Mean}
use Rattle.ckms_words.specs.declared.CkmsWords.{CkmsWords}
use Rattle.words.specs.Words.{largest, flag_fits}

-- the zero whose sign is plus: all its bits are 0
abbrev pub plus_zero : Float → Bool
plus_zero nan = false
plus_zero (inf s) = false
plus_zero (fin s m e) = not s && eqb m 0

-- each word that is a number of 32 bits is one
abbrev pub narrow : CkmsWords → Bool
narrow w =
    leb w.num largest
    && (leb w.den largest
    && (leb w.n largest
    && (leb w.held largest
    && (leb w.blocks largest
    && (leb w.inserts largest
    && leb w.last largest)))))

-- what that test says of them
pub record Narrow (w : CkmsWords) : Type 0 where
  pub num : w.num ≤ largest
  pub den : w.den ≤ largest
  pub n : w.n ≤ largest
  pub held : w.held ≤ largest
  pub blocks : w.blocks ≤ largest
  pub inserts : w.inserts ≤ largest
  pub last : w.last ≤ largest

-- the words fit a CKMS: those numbers, and flags that fit the last value and the mean
abbrev pub fits : CkmsWords → Bool
fits w = narrow w && (flag_fits w.has_last (eqb w.last 0) && flag_fits w.has_mean (plus_zero w.mean))

-- the state of words that fit none: never sound, whatever is lent
abbrev pub misfit : CKMS
misfit = record { error = record { num = 0; den = 0 }; n = 0; held = 0; blocks = 0; inserts = 0; last_in = None; cma = None }

-- the state of words
abbrev pub last_beside : ℕ → ℕ → Option ℕ
last_beside flag v = cond (eqb flag 1) (Some v) None

abbrev pub cma_beside : ℕ → Float → Option Mean
cma_beside flag x = cond (eqb flag 1) (Some record { value = x }) None

abbrev pub narrowed : CkmsWords → CKMS
narrowed w = record {
  error = record { num = w.num; den = w.den };
  n = w.n;
  held = w.held;
  blocks = w.blocks;
  inserts = w.inserts;
  last_in = last_beside w.has_last w.last;
  cma = cma_beside w.has_mean w.mean;
}

abbrev pub ckms_of : CkmsWords → CKMS
ckms_of w = cond (fits w) (narrowed w) misfit

-- the words of a state: what there is not, is 0 behind a flag of 0
abbrev pub last_flag : Option ℕ → ℕ
last_flag None = 0
last_flag (Some v) = 1

abbrev pub last_word : Option ℕ → ℕ
last_word None = 0
last_word (Some v) = v

abbrev pub mean_flag : Option Mean → ℕ
mean_flag None = 0
mean_flag (Some m) = 1

abbrev pub mean_word : Option Mean → Float
mean_word None = fin false 0 (pos 0)
mean_word (Some m) = m.value

abbrev pub words_of : CKMS → CkmsWords
words_of c = record {
  num = c.error.num;
  den = c.error.den;
  n = c.n;
  held = c.held;
  blocks = c.blocks;
  inserts = c.inserts;
  has_last = last_flag c.last_in;
  last = last_word c.last_in;
  has_mean = mean_flag c.cma;
  mean = mean_word c.cma;
}
