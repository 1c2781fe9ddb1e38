-- `scan_lines::promises` meets its contract: each promise is a theorem.
-- Assumes nothing.
use Rattle.scan_lines.proofs.Bounding.{values_bounded, all_or_refused, one_report}
use Rattle.scan_lines.proofs.Examples.{reading_2, blank_scan}
use Rattle.scan_lines.proofs.promises.Goals as goal

pub returns : goal.returns
returns c = record {
  values_bounded = values_bounded;
  all_or_refused = all_or_refused;
  one_report = one_report;
  reading2_written = reading_2;
  blank_written = blank_scan;
}
