-- The notes of a job, by its files.
use Rattle.std.proofs.Common.{◌≡◌, ℕ, List, [], Option, None, Some, IfSome, map, ap, subst, ◌∙◌}
use Rattle.btx_aux.specs.language.Files.{Files}
use Rattle.btx_aux.specs.language.Job.{AuxJob}
use Rattle.btx_bst.specs.language.Style.{Style}
use Rattle.btx_bst.specs.language.StyleText.{style_of}
use Rattle.btx_bib.specs.language.Databases.{library_of}
use Rattle.btx_bib.specs.language.Library.{Library}
use Rattle.btx_bib.specs.language.Requests.{asked}
use Rattle.btx_machine.specs.declared.report.LogCounts.{LogCounts}
use Rattle.btx_machine.specs.laws.Reports.{log_counts}
use Rattle.btx_core.specs.declared.found.FilesRead.{FilesRead}
use Rattle.btx_core.specs.declared.found.JobFiles.{JobFiles}
use Rattle.btx_core.specs.declared.options.Options.{Options}
use Rattle.btx_core.specs.language.Files.Counts.{counts_of}
use Rattle.btx_core.specs.refinement.Files.Readings.{Logged}
use Rattle.btx_run.specs.refinement.Contents.{database_of}
use Rattle.btx_run.specs.refinement.Files.Logging.{LogReceived}
use Rattle.btx_run.specs.refinement.Files.Readings.{IsRead}
use Rattle.btx_run.specs.refinement.Product.{work_in, work_of}
use Rattle.btx_where.specs.Events.{ExplainsFiles, ExplainsReading}

-- the work of a style and a library that were read
pub read_is : (job : AuxJob) (found : JobFiles) (options : Options) (style : Style) (library : Library) (name bytes : List ℕ) → style ≡ style_of name bytes
    → name ≡ found.style.name → bytes ≡ found.style.bytes
    → library ≡ library_of (asked style job options.min_crossrefs) style.macros (map database_of found.databases)
    → work_of style library options ≡ work_in job found options
read_is job found options style library name bytes is_style is_name is_bytes is_library =
    let of = λ (style : Style). library_of (asked style job options.min_crossrefs) style.macros (map database_of found.databases) in
    ap (λ library. work_of style library options) is_library
    ∙ ap (λ (style : Style). work_of style (of style) options)
    (is_style ∙ ap (λ name. style_of name bytes) is_name ∙ ap (style_of found.style.name) is_bytes)

-- what is known of the files, before and after a call that keeps them
pub of_both : (content later : Option Files) (Q R P : Files → Type 0) → later ≡ content → IfSome content Q → IfSome later R
    → ((files : Files) → Q files → R files → P files) → IfSome content P
of_both None later Q R P is q r p = tt
of_both (Some files) later Q R P is q r p = p files q (subst (λ (content : Option Files). IfSome content R) is r)

-- what follows from what is known of them
pub of_files : (content : Option Files) (Q P : Files → Type 0) → IfSome content Q → ((files : Files) → Q files → P files) → IfSome content P
of_files None Q P q p = tt
of_files (Some files) Q P q p = p files q

-- what was read is what the reading gives, and what was counted are its lines
pub read_explained : (job : AuxJob) (read : FilesRead) (options : Options) (given : LogCounts) (warnings errors none_warned none_erred : ℕ) (log : LogReceived)
    (part : Logged FilesRead) (old new : List ℕ)
    → given.warnings ≡ warnings → given.errors ≡ errors → none_warned ≡ 0 → none_erred ≡ 0
    → IsRead read (log_counts none_warned none_erred, log_counts warnings errors) log part
    → ExplainsFiles job read options given old new → ExplainsReading job part options old new
read_explained job read options given warnings errors none_warned none_erred log part old new is_warned is_erred warned erred is_read explains =
    let none : log_counts none_warned none_erred ≡ counts_of [] = ap (λ n. log_counts n none_erred) warned ∙ ap (log_counts 0) erred in
    let counted : given ≡ log_counts warnings errors = ap (λ n. log_counts n given.errors) is_warned ∙ ap (log_counts warnings) is_erred in
    subst (λ given. ExplainsFiles job part.gives options given old new) (counted ∙ is_read.logs.counts [] none)
    (subst (λ read. ExplainsFiles job read options given old new) is_read.gives explains)
