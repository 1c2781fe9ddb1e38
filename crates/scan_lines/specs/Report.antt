-- What the scan program writes, on every input.
-- Assumes nothing: these are definitions.
use Rattle.std.specs.Prelude.{◌≡◌, ℕ, List, [], ◌∷◌, Option, Some, None, Result, Ok, Err}
use Rattle.io.specs.Counts.{IsPrefixLen}
use Rattle.refusal.specs.declared.Refusal.{Refusal}
use Rattle.refusal.specs.declared.Refusal.TheVariants.{File}
use Rattle.refusal.specs.Number.{number_of}
use Rattle.fraction.specs.declared.Fraction.{Fraction}
use Rattle.entries.specs.declared.Entry.{Entry}
use Rattle.greenwald_khanna_steps.specs.declared.Stream.{Stream}
use Rattle.greenwald_khanna_steps.specs.Opening.{opened, opened_list}
use Rattle.scan_file.specs.Layout.{Scan, parsed}
use Rattle.scan_put.specs.Put.{Put}
use Rattle.scan_text.specs.declared.Line.{Line}
use Rattle.scan_text.specs.declared.Line.TheVariants.{FileRefused, OpenRefused}
use Rattle.scan_insert.specs.Inserts.{End, insert_all}
use Rattle.scan_write.specs.ScanLines.{scan_lines, texts}

-- all lines, and the lent list at the end
pub record Report : Type 0 where
  pub lines : List Line
  pub list : List Entry

abbrev pub inserts : End → List Fraction → Report
inserts e fs = record { lines = scan_lines e fs; list = e.list }

-- an opening refusal writes only its own line
abbrev pub opens : Result Stream Refusal → List Entry → Scan → Report
opens (Ok st) list s = inserts (insert_all st list s.observations) s.fractions
opens (Err why) list s = record { lines = OpenRefused (number_of why) ∷ []; list = list }

-- a file refusal writes only its own line
unfoldable pub report_of : Option Scan → List Entry → Report
report_of None list = record { lines = FileRefused (number_of File) ∷ []; list = list }
report_of (Some s) list = opens (opened s.epsilon list) (opened_list s.epsilon list) s

-- the text stands at the start of `out`, and r is its length; `counts` follows from that, and a caller can write those r bytes without a proof
pub record ReportPost (bytes : List ℕ) (before : List Entry) (out : List ℕ) (r : ℕ) (list : List Entry) (after : List ℕ) : Type 0 where
  pub written : Put (texts (report_of (parsed bytes) before).lines) 0 out r after
  pub left : list ≡ (report_of (parsed bytes) before).list
  pub counts : IsPrefixLen r after
