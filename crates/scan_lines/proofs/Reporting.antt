-- The report, put together from what its parts ensure. Assumes nothing.
use Rattle.std.specs.Prelude.{Result, Ok, Err}
use mathlib.Core.Path.{◌≡◌, sym, ◌∙◌}
use mathlib.Core.List.{List, [], ◌∷◌}
use Prim.Native.Nat.{ℕ}
use Rattle.refusal.specs.declared.Refusal.{Refusal}
use Rattle.refusal.specs.declared.Refusal.TheVariants.{File}
use Rattle.refusal.specs.Number.{number_of, number_in}
use Rattle.entries.specs.declared.Entry.{Entry}
use Rattle.greenwald_khanna_steps.specs.declared.Stream.{Stream}
use Rattle.greenwald_khanna_steps.specs.Opening.{OpenPost}
use Rattle.scan_file.specs.declared.Layout.{Layout}
use Rattle.scan_file.specs.Answers.{answer}
use Rattle.scan_file.specs.Layout.{parsed}
use Rattle.scan_file.proofs.Parsing.{scan_at, layout_taken, layout_refused}
use Rattle.scan_put.specs.Put.{Put}
use Rattle.scan_put.proofs.Texts.{put_counts}
use Rattle.scan_text.specs.declared.Line.{Line}
use Rattle.scan_text.specs.declared.Line.TheVariants.{FileRefused, OpenRefused}
use Rattle.scan_text.specs.Lines.{text_of}
use Rattle.scan_insert.specs.declared.Ran.{Ran}
use Rattle.scan_insert.specs.Inserts.{end_of, insert_all, RanPost}
use Rattle.scan_write.specs.ScanLines.{scan_lines, texts}
use Rattle.scan_write.proofs.Writing.{one_put}
use Rattle.scan_lines.specs.Report.{opens, report_of, ReportPost}

module _ (bytes : List ℕ) (before : List Entry) (out : List ℕ) (r : ℕ) (after : List ℕ) where
  -- a report that consists of known lines
  as-report : (list : List Entry) (lines : List Line) → report_of (parsed bytes) before ≡ record { lines = lines; list = list }
      → Put (texts lines) 0 out r after → ReportPost bytes before out r list after
  as-report list lines e p = record {
    written = rw e p;
    left = rw e;
    counts = put_counts p;
  }

  pub file_report : (why : Refusal) (a : Result Layout Refusal) (n : ℕ) → a ≡ Err why → a ≡ answer (parsed bytes) → n ≡ number_in a
      → Put (text_of (FileRefused n)) 0 out r after → ReportPost bytes before out r before after
  unfolding report_of
  file_report why a n t h q p =
      let none = layout_refused bytes why (sym t ∙ h) in
      let same : n ≡ number_of File = rw (h, none) at q in
      as-report before (FileRefused (number_of File) ∷ []) (rw none) (one_put (FileRefused (number_of File)) (rw same at p))

  -- where the file is taken
  module _ (l : Layout) (h : Ok l ≡ answer (parsed bytes)) (o : Result Stream Refusal) (list : List Entry) (q : OpenPost l.epsilon before o list) where
    taken-report : report_of (parsed bytes) before ≡ opens o list (scan_at bytes l)
    unfolding report_of
    taken-report = rw ((layout_taken bytes l h).0, q.answered, q.left)

    pub open_report : (why : Refusal) (n : ℕ) → o ≡ Err why → n ≡ number_in o → Put (text_of (OpenRefused n)) 0 out r after
        → ReportPost bytes before out r list after
    open_report why n e q p =
        let same : n ≡ number_of why = rw e at q in
        as-report list (OpenRefused (number_of why) ∷ []) (rw e at taken-report) (one_put (OpenRefused (number_of why)) (rw same at p))

    pub scan_report : (st : Stream) → o ≡ Ok st → (ran : Ran) (rows : List Entry) → RanPost (insert_all st list (scan_at bytes l).observations) ran rows
        → Put (texts (scan_lines (end_of ran rows) (scan_at bytes l).fractions)) 0 out r after → ReportPost bytes before out r rows after
    scan_report st e ran rows k p =
        let end : insert_all st list (scan_at bytes l).observations ≡ end_of ran rows = λ i. record { ran = sym k.answered i; list = sym k.left i } in
        as-report rows (scan_lines (end_of ran rows) (scan_at bytes l).fractions) (rw (e, end) at taken-report) p
