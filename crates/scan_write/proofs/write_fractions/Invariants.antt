use mathlib.Core.List.{map}
use Prim.Native.Nat.{◌+◌, ◌*◌, ◌≤◌}
use Rattle.entries.specs.Entry.{entries_of}
use Rattle.scan_file.specs.Layout.{fractions_at}
use Rattle.scan_put.specs.Put.{Put}
use Rattle.scan_write.specs.ScanLines.{fraction_line, texts}
use Rattle.scan_write.proofs.write_fractions.Given as goal

abbrev pub invariant-loop-i : goal.invariant-loop-i
invariant-loop-i l = record {
  within : l.at ≤ l.from + l.i * 41;
  written : Put (texts (map (fraction_line l.stream (entries_of l.rows)) (fractions_at l.bytes l.i))) l.from l.initial.out l.at l.out;
}
