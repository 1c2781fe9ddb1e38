-- `scan_lines::report` meets its contract: each way out is a case of the definition.
-- Assumes nothing.
use mathlib.Core.Path.{sym, ◌∙◌}
use native.Mathlib.Omega.{arith}
use Rattle.entries.specs.Entry.{entries_of}
use Rattle.scan_file.proofs.Parsing.{layout_taken}
use Rattle.scan_lines.proofs.Reporting.{file_report, open_report, scan_report}
use Rattle.scan_lines.proofs.report.Goals as goal

pub returns-in_default : goal.returns-in_default
returns-in_default c =
    file_report c.args.bytes.now (entries_of c.args.rows.now) c.args.out.now c.spell.result c.spell.new.out _ c.parse-parsed.result c.number_in.result
    c.in_default.is c.parse-parsed.ensures c.number_in.ensures c.spell.ensures.0

pub returns-in_default-opened : goal.returns-in_default-opened
returns-in_default-opened c =
    open_report c.args.bytes.now (entries_of c.args.rows.now) c.args.out.now c.spell-in_default-opened.result c.spell-in_default-opened.new.out _
    (sym c.in-Ok.is ∙ c.parse-parsed.ensures) c.open-opened.result (entries_of c.open-opened.new.list) c.open-opened.ensures
    _ c.number_in-in_default-opened.result c.in_default-opened.is c.number_in-in_default-opened.ensures c.spell-in_default-opened.ensures.0

pub write_scan-requires : goal.write_scan-requires
write_scan-requires c =
    let few = (layout_taken c.args.bytes.now _ (sym c.in-Ok.is ∙ c.parse-parsed.ensures)).1 in
    omega arith

pub returns : goal.returns
returns c =
    scan_report c.args.bytes.now (entries_of c.args.rows.now) c.args.out.now c.write_scan.result c.write_scan.new.out _
    (sym c.in-Ok.is ∙ c.parse-parsed.ensures) c.open-opened.result (entries_of c.open-opened.new.list) c.open-opened.ensures
    _ c.in-Ok-opened.is c.insert_all-ran.result (entries_of c.insert_all-ran.new.rows) c.insert_all-ran.ensures c.write_scan.ensures
