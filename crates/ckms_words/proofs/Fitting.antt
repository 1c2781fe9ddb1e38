-- Which CKMS words make: their own where they fit, else the one that is never sound.
-- Assumes nothing.
use mathlib.Core.Path.{◌≡◌}
use mathlib.Core.Bool.{true, false}
use borrow.Author.Tests.{le-leb}
use Rattle.words.specs.Words.{largest}
use Rattle.ckms_words.specs.declared.CkmsWords.{CkmsWords}
use Rattle.ckms_words.specs.Ckmses as ckms

module _ (w : CkmsWords) where
  -- the test is one of each word
  pub narrow_holds : ckms.Narrow w → ckms.narrow w ≡ true
  narrow_holds n = rw (
    le-leb w.num largest n.num,
    le-leb w.den largest n.den,
    le-leb w.n largest n.n,
    le-leb w.held largest n.held,
    le-leb w.blocks largest n.blocks,
    le-leb w.inserts largest n.inserts,
    le-leb w.last largest n.last,
  )

  pub ckms_misfitted : ckms.fits w ≡ false → ckms.ckms_of w ≡ ckms.misfit
  ckms_misfitted t = rw t
