-- What is promised of the scan program's report beside its contract, each statement under its name; the contract of `promises` states them all.
-- Assumes nothing: these are definitions.
use Rattle.std.specs.Prelude.{◌≡◌, ℕ, ◌<◌, List, [], ◌∷◌, length, take, replicate, codes, Some, None, Ok}
use Rattle.fraction.specs.declared.Fraction.{Fraction}
use Rattle.entries.specs.declared.Entry.{Entry}
use Rattle.entries.specs.Entry.{entries_of, zero_entry}
use Rattle.entries.specs.Promises.{Threes}
use Rattle.greenwald_khanna_steps.specs.declared.Stream.{Stream}
use Rattle.greenwald_khanna_steps.specs.Opening.{opened, opened_list}
use Rattle.greenwald_khanna.specs.Answers.{quantiled}
use Rattle.noise_floor.specs.Demand3.{Bounded}
use Rattle.scan_file.specs.Layout.{Scan, encoded, parsed}
use Rattle.scan_insert.specs.Inserts.{End, insert_all}
use Rattle.scan_write.specs.ScanLines.{texts}
use Rattle.scan_lines.specs.Report.{report_of, ReportPost}

-- what inserting all observations of a scan comes to, after an opening that gave st
abbrev pub end_from : Scan → List Entry → Stream → End
end_from s list st = insert_all st (opened_list s.epsilon list) s.observations

-- the n that `taken` says, and the observations that were accepted: the first n
abbrev pub accepted : Scan → End → List ℕ
accepted s e = take e.ran.stream.n s.observations

-- demand 3 of every value that is written: it is within the ranks of the accepted observations, and an allowed φ has one as soon as n ≥ 1
unfoldable pub ValuesBounded : Type 0
ValuesBounded =
    (s : Scan) (list : List Entry) (st : Stream) → opened s.epsilon list ≡ Ok st → (φ : Fraction)
    → Bounded s.epsilon φ (accepted s (end_from s list st)) (quantiled (end_from s list st).ran.stream (end_from s list st).list φ)

-- all observations are taken, or a refusal stopped them before the last
unfoldable pub AllOrRefused : Type 0
AllOrRefused =
    (s : Scan) (list : List Entry) (st : Stream) → opened s.epsilon list ≡ Ok st
    → ((end_from s list st).ran.refused ≡ None → (end_from s list st).ran.stream.n ≡ length s.observations)
    × ((number : ℕ) → (end_from s list st).ran.refused ≡ Some number → (end_from s list st).ran.stream.n < length s.observations)

-- any two outcomes that the contract of `report` allows for one input coincide: the text, its length, and every word of the lent rows
unfoldable pub OneReport : Type 0
OneReport =
    (bytes : List ℕ) (before : List Entry) (out : List ℕ) (r s : ℕ) (xs ys : List (List ℕ)) (l m : List ℕ) → Threes xs → Threes ys
    → ReportPost bytes before out r (entries_of xs) l → ReportPost bytes before out s (entries_of ys) m → (r ≡ s) × (xs ≡ ys) × (l ≡ m)

-- what the program writes for a file: over a fresh list of 4,096 zero entries
abbrev pub output : List ℕ → List ℕ
output bytes = texts (report_of (parsed bytes) (replicate 4096 zero_entry)).lines

-- reading 2: ε 1/4, the fractions 1/2, 0/1, 1/1
abbrev pub reading2 : Scan
reading2 = record {
  epsilon = record { num = 1; den = 4 };
  fractions = record { num = 1; den = 2 } ∷ record { num = 0; den = 1 } ∷ record { num = 1; den = 1 } ∷ [];
  observations = 30 ∷ 10 ∷ 20 ∷ 40 ∷ 25 ∷ 35 ∷ [];
}

unfoldable pub Reading2 : Type 0
Reading2 = output (encoded reading2) ≡ codes "taken 6\nheld 4\n1/2 30\n0/1 10\n1/1 40\n"

-- no observations: each fraction is refused, an unfit one with PHI and a fit one with EMPTY
abbrev pub blank : Scan
blank = record {
  epsilon = record { num = 1; den = 2 };
  fractions = record { num = 1; den = 2 } ∷ record { num = 3; den = 2 } ∷ [];
  observations = [];
}

unfoldable pub BlankScan : Type 0
BlankScan = output (encoded blank) ≡ codes "taken 0\nheld 0\n1/2 refused 8\n3/2 refused 7\n"

pub record Promises : Type 0 where
  pub values_bounded : ValuesBounded
  pub all_or_refused : AllOrRefused
  pub one_report : OneReport
  pub reading2_written : Reading2
  pub blank_written : BlankScan
