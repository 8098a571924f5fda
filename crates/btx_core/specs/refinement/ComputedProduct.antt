-- The product of a job: what a whole run writes and answers. It composes what the reading of the files gives, what the style's text and the
-- databases hold, and what executing the style then does; each stands in definitions of its own.
use Rattle.std.specs.Prelude.{ℕ, List, ◌++◌, [], map}
use Rattle.std.specs.List.{flat_map}
use Rattle.btx_text.specs.language.LogLines.{Line}
use Rattle.btx_aux.specs.language.Files.{Files}
use Rattle.btx_aux.specs.language.Job.{AuxJob}
use Rattle.btx_bib.specs.language.Databases.{library_of}
use Rattle.btx_bib.specs.language.Messages.{Database}
use Rattle.btx_bib.specs.language.Requests.{asked}
use Rattle.btx_step.specs.language.Jobs.{Job}
use Rattle.btx_machine.specs.language.Product.{Product, style_product}
use Rattle.btx_machine.specs.language.Reports.{report_of}
use Rattle.btx_machine.specs.language.Saying.{ended_line}
use Rattle.btx_machine.specs.declared.report.LogCounts.{LogCounts}
use Rattle.btx_core.specs.declared.found.FilesRead.{FilesRead}
use Rattle.btx_core.specs.declared.found.FilesRead.TheVariants.{Ends, Found}
use Rattle.btx_core.specs.declared.options.Options.{Options}
use Rattle.btx_core.specs.language.Files.Counts.{counts_of}
use Rattle.btx_core.specs.refinement.Contents.{style_in}
use Rattle.btx_core.specs.language.Files.Found.{NamedFile}
use Rattle.btx_core.specs.refinement.Files.Readings.{job_named, reading_of}

-- what follows the reading of the files, with a budget: the run ends at once, or the style is executed, with the library of the databases that were
-- found and with the options. In that library an entry that isn't cited needs at least `options.min_crossrefs` references to stay. `counts` are the
-- numbers of warnings and errors that were logged before
abbrev pub product_of_files : AuxJob → FilesRead → Options → LogCounts → ℕ → Product
product_of_files job (Ends ending) options counts budget = record { bbl = []; log_so_far = []; report = report_of ending 0 0 counts }
product_of_files job (Found found) options counts budget =
    let style = style_in found in
    let databases : List Database = map (λ (file : NamedFile). record { file = file.name; text = file.bytes }) found.databases in
    let work : Job = record {
      style = style;
      library = library_of (asked style job options.min_crossrefs) style.macros databases;
      mode = options.text;
      entry_max = options.entry_max;
      global_max = options.global_max;
    } in
    style_product work counts options.line budget

-- the product of the job of this name, with a budget: what follows the reading of its files, with the log lines of the
-- reading before its own
abbrev pub product_with : Files → List ℕ → Options → ℕ → Product
product_with files name options budget =
    let read = reading_of files name in
    let rest = product_of_files (job_named files name) read.gives options (counts_of read.lines) budget in
    record rest { log_so_far = flat_map (λ (line : Line). ended_line line.text) read.lines ++ rest.log_so_far }

-- a run of BibTeX on a job reads the job's `.aux` files, and the style and the databases that these name, and executes the commands of the style.
-- The list of references is what the style writes; the log has a line for each file that is read and each message, in the order in which they are
-- met, and its last line gives the report. The run ends with the last command of the style, or before it: where the top `.aux` file or the style
-- is missing, where a limit is met, or where the budget doesn't cover the next step.
abbrev pub product : Files → List ℕ → Options → Product
product files name options = product_with files name options options.budget
