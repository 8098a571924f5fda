-- How many bodies are open at once in a whole run with a direct style.
use Rattle.std.proofs.Common.{◌≡◌, ℕ, List, length, map, sym, subst}
use Rattle.btx_aux.specs.language.Files.{Files}
use Rattle.btx_aux.specs.language.Job.{AuxJob}
use Rattle.btx_bst.specs.language.Direct.{IsDirect}
use Rattle.btx_bst.specs.laws.References.{RefersWithin}
use Rattle.btx_bst.specs.language.Style.{type_of}
use Rattle.btx_bst.proofs.ReferenceLemmas.{style-refers_within}
use Rattle.btx_bib.specs.language.Requests.{asked}
use Rattle.btx_machine.specs.declared.report.Report.{Report}
use Rattle.btx_machine.specs.declared.report.LogCounts.{LogCounts}
use Rattle.btx_machine.specs.language.DirectDepth.{StaysWithin}
use Rattle.btx_machine.specs.laws.DirectDepth.{KindsRefer}
use Rattle.btx_machine.proofs.DirectRuns as machine
use Rattle.btx_core.specs.declared.found.FilesRead.{FilesRead}
use Rattle.btx_core.specs.declared.found.FilesRead.TheVariants.{Ends, Found}
use Rattle.btx_core.specs.declared.found.JobFiles.{JobFiles}
use Rattle.btx_core.specs.declared.options.Options.{Options}
use Rattle.btx_core.specs.refinement.Contents.{style_in}
use Rattle.btx_run.specs.language.DirectStyles.{WhereDirect}
use Rattle.btx_core.specs.refinement.Files.Readings.{job_named, reading_of}
use Rattle.btx_run.specs.laws.Laws.{DirectLaw}
use Rattle.btx_core.specs.language.Files.Counts.{counts_of}
use Rattle.btx_core.specs.refinement.ComputedProduct.{product, product_of_files}
use Rattle.btx_run.proofs.KindLemmas.{databases_fit, kind_fits, types_first}
use Rattle.btx_run.specs.refinement.Contents.{database_of, library_in}
use Rattle.btx_run.specs.refinement.Product.{work_in}

module _ (job : AuxJob) (found : JobFiles) (options : Options) where
  within : RefersWithin (style_in found)
  within = style-refers_within found.style.name found.style.bytes

  kinds : KindsRefer (work_in job found options)
  kinds entry number e =
      let style = style_in found in
      let n = length style.bodies in
      kind_fits n (library_in job found options.min_crossrefs).entries entry number
      (databases_fit n (asked style job options.min_crossrefs) (λ name. types_first n (type_of style name) (within.types name)) style.macros
      (map database_of found.databases)) e

  found_within : (counts : LogCounts) (budget : ℕ) → IsDirect (style_in found)
      → StaysWithin (length (style_in found).bodies) (product_of_files job (Found found) options counts budget).report
  found_within counts budget direct = machine.holds (work_in job found options) counts options.line budget within kinds direct

files_within : (job : AuxJob) (read : FilesRead) (options : Options) (counts : LogCounts) (budget : ℕ)
    → WhereDirect read (λ functions. StaysWithin functions (product_of_files job read options counts budget).report)
files_within job (Ends end) options counts budget = tt
files_within job (Found found) options counts budget = found_within job found options counts budget

pub holds : DirectLaw
holds files name options budget = let read = reading_of files name in files_within (job_named files name) read.gives options (counts_of read.lines) budget

-- so is the report of a run
pub report_stays : (files : Files) (name : List ℕ) (options : Options) (report : Report) → report ≡ (product files name options).report
    → WhereDirect (reading_of files name).gives (λ functions. StaysWithin functions report)
report_stays files name options report e = subst (λ (report : Report). WhereDirect (reading_of files name).gives (λ functions. StaysWithin functions report))
    (sym e) (holds files name options options.budget)
