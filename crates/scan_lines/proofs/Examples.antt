-- The worked outputs, by computation. Assumes nothing.
use Rattle.std.specs.Prelude.{Option, Some}
use mathlib.Core.Path.{◌≡◌, refl, ap, ◌∙◌}
use native.Mathlib.Omega.{arith}
use lib.ListN.{replicate}
use Rattle.fraction.specs.Band.{halvings}
use Rattle.entries.specs.Entry.{zero_entry}
use Rattle.entries.specs.Place.{place}
use Rattle.greenwald_khanna_theory.specs.Sound.{each_within, first_exact, last_exact, sound_entries}
use Rattle.greenwald_khanna_theory.specs.State.{grown, tidied, insert, answer_at, quantile}
use Rattle.greenwald_khanna_theory.specs.Summary.{new_delta, put_in, mergeable, step, merged, compress}
use Rattle.greenwald_khanna_theory.specs.Walk.{walk, look_up}
use Rattle.greenwald_khanna_steps.specs.Sound.{sound}
use Rattle.greenwald_khanna_steps.specs.Opening.{opened}
use Rattle.greenwald_khanna.specs.Answers.{inserted, quantiled}
use Rattle.scan_file.specs.Layout.{Scan, Fits, flat, encoded}
use Rattle.scan_file.specs.Promises.{EncodedIsTaken}
use Rattle.scan_file.proofs.Files.{encoded_is_taken}
use Rattle.scan_put.specs.Decimal.{digits_of}
use Rattle.scan_insert.specs.Inserts.{insert_all}
use Rattle.scan_write.specs.ScanLines.{texts}
use Rattle.scan_lines.specs.Promises.{output, reading2, Reading2, blank, BlankScan}
use Rattle.scan_lines.specs.Report.{report_of}

-- the file of a scan is read back
read : (s : Scan) → Fits s → output (encoded s) ≡ texts (report_of (Some s) (replicate 4096 zero_entry)).lines
unfolding EncodedIsTaken
read s h = ap (λ (o : Option Scan). texts (report_of o (replicate 4096 zero_entry)).lines) (encoded_is_taken s h)

pub reading_2 : Reading2
unfolding Reading2 flat halvings place each_within first_exact last_exact sound_entries grown tidied insert answer_at quantile new_delta put_in mergeable step merged compress walk look_up opened inserted quantiled sound digits_of insert_all report_of texts
reading_2 = read reading2 (record { words = omega arith; fractions_fit = omega arith; observations_fit = omega arith }) ∙ refl

pub blank_scan : BlankScan
unfolding BlankScan flat opened inserted quantiled sound each_within first_exact last_exact sound_entries answer_at quantile look_up digits_of insert_all report_of texts
blank_scan = read blank (record { words = omega arith; fractions_fit = omega arith; observations_fit = omega arith }) ∙ refl
