-- What the reading of a job's files gives, up to the execution of the style. The `.aux` files come first; then the style is looked for, and
-- then the databases that they name (btxdoc, section 2), each in turn. A database is judged when the style reads it, not here.
use Rattle.std.specs.Prelude.{ℕ, List, [], ◌∷◌, ◌++◌, Option, None, Some, if◌then◌else◌, codes}
use Rattle.btx_aux.specs.language.Files.{Files}
use Rattle.btx_aux.specs.language.Job.{AuxJob, job_of_files}
use Rattle.btx_aux.specs.declared.end.End.{End as AuxEnd}
use Rattle.btx_aux.specs.declared.end.End.TheVariants as aux
use Rattle.btx_text.specs.language.LogLines.{Line}
use Rattle.btx_core.specs.declared.found.FilesRead.{FilesRead}
use Rattle.btx_core.specs.declared.found.FilesRead.TheVariants.{Ends, Found}
use Rattle.btx_text.specs.declared.limits.Limit.TheVariants as kind
use Rattle.btx_machine.specs.declared.report.End.TheVariants as ended
use Rattle.btx_core.specs.language.Files.Lines.{no_style_line, style_line}
use Rattle.btx_core.specs.language.Files.Databases.{databases_logged, files_found}
use Rattle.btx_core.specs.language.Files.Found.{NamedFile, file_at}
use Rattle.btx_text.specs.language.Limits.{is_too_long}
use Rattle.btx_aux.specs.language.Names.{with_ending}

-- a part of the reading: its lines of the log, and what it gives
pub record Logged (T : Type 0) : Type 0 where
  pub lines : List Line
  pub gives : T

-- a part of the reading, made of its log lines and its result
abbrev pub logged : {T : Type 0} → List Line → T → Logged T
logged lines gives = record { lines = lines; gives = gives }

-- a part of the reading with further log lines before its own
abbrev pub behind : {T : Type 0} → List Line → Logged T → Logged T
behind lines part = logged (lines ++ part.lines) part.gives

-- ---- the style

-- the style of this name, once it is looked for, and then the databases of the job: those that are there. If there is no such style, that is an
-- error, and the run ends as `finished`, with the status 2. A style that is too long ends the run at its limit. In both cases no database is looked
-- for
unfoldable pub style_read : Files → AuxJob → List ℕ → Option NamedFile → Logged FilesRead
style_read files job name None = logged (no_style_line name ∷ []) (Ends ended.Finished)
style_read files job name (Some style) =
    behind (style_line name ∷ [])
    (if is_too_long style.bytes then logged [] (Ends (ended.Limit kind.File))
    else logged (databases_logged files [] job.databases) (Found (record { style = style; databases = files_found files job.databases })))

-- the style that the `.aux` files name, and then the databases. If they name none, which is an error of the `.aux` files, the run ends as `finished`
unfoldable pub style_named : Files → AuxJob → Option (List ℕ) → Logged FilesRead
style_named files job None = logged [] (Ends ended.Finished)
style_named files job (Some name) = style_read files job name (file_at files name)

-- ---- the job

-- what follows the `.aux` files of a job, by how their reading ended: its style and its databases, only if these files were read to their end
unfoldable pub after_job : Files → AuxJob → AuxEnd → Logged FilesRead
after_job files job aux.Whole = style_named files job job.style
after_job files job aux.TooManyOpen = logged [] (Ends (ended.Limit kind.Files))
after_job files job aux.TopMissing = logged [] (Ends ended.NoTopFile)
after_job files job aux.FileLimit = logged [] (Ends (ended.Limit kind.File))

-- what the `.aux` files of the job of this name say; the top-level file has the job's name with `.aux`, unless that ends so
abbrev pub job_named : Files → List ℕ → AuxJob
job_named files name = job_of_files files (with_ending (codes ".aux") name)

-- the whole reading of the files of the job of this name: what was logged of the `.aux` files, and what follows them
abbrev pub reading_of : Files → List ℕ → Logged FilesRead
reading_of files name =
    let job = job_named files name in
    behind job.log (after_job files job job.ending)
