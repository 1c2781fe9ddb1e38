-- `scan_write::write_fractions` meets its contract: after i turns the lines of the first i fractions stand in the text.
-- Assumes nothing.
use native.Mathlib.Omega.{arith}
use Rattle.entries.specs.Entry.{entries_of}
use Rattle.scan_file.specs.Layout.{fraction_at}
use Rattle.scan_file.specs.Words.{each}
use Rattle.scan_write.specs.ScanLines.{fraction_line}
use Rattle.scan_write.proofs.Writing.{none_put, fraction_put}
use Rattle.scan_write.proofs.write_fractions.Goals as goal

pub loop-i-init : goal.loop-i-init
unfolding each
loop-i-init c = record { within = omega arith; written = none_put c.args.out.now c.args.from }

pub loop-i-preserved : goal.loop-i-preserved
loop-i-preserved c = record {
  within = omega arith;
  written =
      fraction_put (fraction_line c.args.stream (entries_of c.args.rows.now)) (fraction_at c.args.bytes.now) c.loop-i.i c.loop-i.invariant.written
      (rw (c.line_of.ensures, c.fraction.ensures) at c.spell-at.ensures.0);
}
