use mathlib.Core.Path.{◌≡◌}
use Prim.Native.Nat.{◌-◌}
use Rattle.entries.specs.Entry.{entries_of}
use Rattle.scan_file.specs.Layout.{observation_at, observations_at}
use Rattle.scan_file.specs.Words.{each}
use Rattle.scan_insert.specs.Inserts.{insert_all}
use Rattle.scan_insert.proofs.insert_all.Given as goal

abbrev pub invariant-loop-i : goal.invariant-loop-i
invariant-loop-i l =
    insert_all l.stream (entries_of l.rows) (each (observation_at l.bytes l.layout.fractions) l.i (l.layout.observations - l.i))
    ≡ insert_all l.initial.stream (entries_of l.initial.rows) (observations_at l.bytes l.layout.fractions l.layout.observations)
