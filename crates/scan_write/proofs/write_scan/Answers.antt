-- `scan_write::write_scan` meets its contract: the lines put one behind the other, with or without that of a refused insert.
-- Assumes nothing.
use Rattle.std.specs.Prelude.{◌≡◌, Some, None}
use Rattle.entries.specs.Entry.{entries_of}
use Rattle.scan_put.specs.Put.{Put}
use Rattle.scan_text.specs.declared.Line.TheVariants.{InsertRefused}
use Rattle.scan_file.specs.Layout.{fractions_at}
use Rattle.scan_write.specs.ScanLines.{refused_line, texts}
use Rattle.scan_write.proofs.Writing.{none_put, one_put, scan_written}
use Rattle.scan_write.proofs.write_scan.Goals as goal
use Rattle.scan_write.proofs.write_scan.Goals.{in-Some, in_default}

pub returns : goal.returns
returns c =
    let refused : Put (texts (refused_line c.args.ran.refused)) c.spell-at.result c.spell-at.new.out c.match-ran.at c.match-ran.out =
    elim c.match-ran.branch [
      | in-Some w ↦
          let is : c.args.ran.refused ≡ Some w.in-Some.number = w.in-Some.is in
          rw (is, w.at-is, w.out-is) (one_put (InsertRefused w.in-Some.number) w.spell-at-in-Some.ensures.0)
      | in_default w ↦
          let is : c.args.ran.refused ≡ None = w.in_default.is in
          rw (is, w.at-is, w.out-is) (none_put c.spell-at.new.out c.spell-at.result)
    ]
    in
    scan_written c.args.ran (entries_of c.args.rows.now) (fractions_at c.args.bytes.now c.args.layout.fractions)
    c.spell-after_taken.ensures.0 c.spell-at.ensures.0 refused c.write_fractions.ensures
