-- The text of each line that the scan program writes.
-- Assumes nothing: these are definitions.
use Rattle.std.specs.Prelude.{ℕ, List, ◌++◌, codes}
use Rattle.scan_put.specs.Pieces.{named, shown}
use Rattle.scan_text.specs.declared.Line.{Line}
use Rattle.scan_text.specs.declared.Line.TheVariants.{FileRefused, OpenRefused, Taken, Held, InsertRefused, Value, Refused}

abbrev pub text_of : Line → List ℕ
text_of (FileRefused n) = named (codes "file refused ") n
text_of (OpenRefused n) = named (codes "open refused ") n
text_of (Taken n) = named (codes "taken ") n
text_of (Held n) = named (codes "held ") n
text_of (InsertRefused n) = named (codes "insert refused ") n
text_of (Value f v) = shown f ++ named (codes " ") v
text_of (Refused f n) = shown f ++ named (codes " refused ") n

-- the longest line has 41 bytes: three numbers of ten digits, '/', ' refused ' and the end of the line
abbrev pub line_bytes : ℕ
line_bytes = 41
