-- What calls answer that read files, and what they log.
use Rattle.std.specs.Prelude.{ℕ, ◌≤◌, List, [], ◌∷◌, ◌++◌, length, Option, Result, Ok, Err, ◌≡◌, option_to_list, if◌then◌else◌}
use Rattle.std.specs.Option.{option_map_or}
use Rattle.btx_aux.specs.language.Files.{Files}
use Rattle.btx_aux.specs.language.Job.{AuxJob}
use Rattle.btx_text.specs.declared.fault.Fault.{Fault}
use Rattle.btx_text.specs.language.Limits.{greatest_file, is_too_long}
use Rattle.btx_out.specs.language.Pieces.{AppendsPrefix}
use Rattle.btx_core.specs.declared.found.FilesRead.{FilesRead}
use Rattle.btx_core.specs.declared.found.FilesRead.TheVariants.{Ends, Found}
use Rattle.btx_run.specs.refinement.Files.Logging.{Counted, LogReceived, Logs, bytes_of_lines}
use Rattle.btx_core.specs.language.Files.Found.{NamedFile, file_at}
use Rattle.btx_core.specs.language.Files.Databases.{files_found, databases_logged}
use Rattle.btx_core.specs.refinement.Files.Readings.{Logged, logged, behind, after_job}
use Rattle.btx_text.specs.language.LogLines.{Line}
use Rattle.btx_core.specs.language.Files.Lines.{database_line, no_database_line}
use Rattle.btx_text.specs.declared.limits.Limit.TheVariants as kind
use Rattle.btx_machine.specs.declared.report.End.TheVariants as ended

-- the log line of a database, which has this number if it is found
abbrev pub database_logged : ℕ → List ℕ → Option NamedFile → Line
database_logged number name found = option_map_or (λ (file : NamedFile). database_line number name) found (no_database_line name)

-- the databases of these names: those that are there
abbrev pub databases_read : Files → List (List ℕ) → Logged (List NamedFile)
databases_read files names = logged (databases_logged files [] names) (files_found files names)

-- the reading after the style was found: a style that is too long ends the run, and no database is looked for
abbrev pub style_found : NamedFile → Logged (List NamedFile) → Logged FilesRead
style_found style databases = if is_too_long style.bytes then logged [] (Ends (ended.Limit kind.File))
    else logged databases.lines (Found (record { style = style; databases = databases.gives }))

-- ---- databases

-- a database that is looked for, which would be found as the one of this number
abbrev pub database_read : Files → ℕ → List ℕ → Logged (Option NamedFile)
database_read files number name = logged (database_logged number name (file_at files name) ∷ []) (file_at files name)

-- ---- the style

-- what follows a style that was found: one that is too long ends the run, else the databases are looked for
unfoldable pub after_style : Files → AuxJob → NamedFile → Logged FilesRead
after_style files job style = style_found style (databases_read files job.databases)

-- a style that is executed is no longer than a file may be
abbrev pub StyleFits : FilesRead → Type 0
StyleFits (Ends end) = Unit {0}
StyleFits (Found found) = length found.style.bytes ≤ greatest_file

-- ---- what an answer and the log say of a part of the reading

-- the part was read: the answer is what it gives, and its lines were logged
pub record IsRead {T : Type 0} (value : T) (counted : Counted) (log : LogReceived) (part : Logged T) : Type 0 where
  pub gives : value ≡ part.gives
  pub logs : Logs counted log part.lines

-- a part that was read, or at a fault a prefix of its lines
abbrev pub ReadsAs : {T : Type 0} → Result T Fault → Counted → LogReceived → Logged T → Type 0
ReadsAs (Ok value) counted log part = IsRead value counted log part
ReadsAs (Err fault) counted log part = AppendsPrefix log.0 log.1 (bytes_of_lines part.lines)

-- a database was logged, and is kept after those before it if it was found
pub record IsAdded (before after : List NamedFile) (counted : Counted) (log : LogReceived) (part : Logged (Option NamedFile)) : Type 0 where
  pub kept : after ≡ before ++ option_to_list part.gives
  pub logs : Logs counted log part.lines

-- a database that was added so, or at a fault a prefix of what is logged of it
abbrev pub AddsAs : {T : Type 0} → Result T Fault → List NamedFile → List NamedFile → Counted → LogReceived → Logged (Option NamedFile) → Type 0
AddsAs (Ok value) before after counted log part = IsAdded before after counted log part
AddsAs (Err fault) before after counted log part = AppendsPrefix log.0 log.1 (bytes_of_lines part.lines)

-- a style with the databases that were found
abbrev pub with_style : NamedFile → Logged (List NamedFile) → Logged FilesRead
with_style style part = logged part.lines (Found (record { style = style; databases = part.gives }))

-- what was logged of the `.aux` files, and what follows them
abbrev pub files_read : Files → AuxJob → Logged FilesRead
files_read files job = behind job.log (after_job files job job.ending)
