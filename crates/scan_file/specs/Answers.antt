-- What `parse` answers: FILE, or ε and how many fractions and observations there are.
-- Assumes nothing: these are definitions.
use Rattle.std.specs.Prelude.{length, Option, Some, None, Result, Ok, Err}
use Rattle.refusal.specs.declared.Refusal.{Refusal}
use Rattle.refusal.specs.declared.Refusal.TheVariants.{File}
use Rattle.scan_file.specs.declared.Layout.{Layout}
use Rattle.scan_file.specs.Layout.{Scan}

abbrev pub answer : Option Scan → Result Layout Refusal
answer None = Err File
answer (Some s) =
    Ok (record { epsilon = s.epsilon; fractions = length s.fractions; observations = length s.observations })
