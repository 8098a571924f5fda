-- What a larger budget changes of a whole run.
use Rattle.std.proofs.Common.{ℕ, ◌≤◌, List, [], ◌++◌, refl, sym, ap, ◌∙◌, append_assoc, append-nil}
use Rattle.btx_text.specs.language.LogLines.{Line}
use Rattle.btx_aux.specs.language.Job.{AuxJob}
use Rattle.btx_out.specs.laws.Lengths.{IsLineLength}
use Rattle.btx_machine.specs.declared.report.LogCounts.{LogCounts}
use Rattle.btx_machine.specs.language.Product.{Product}
use Rattle.btx_machine.specs.laws.ProductLaws.{Foretells}
use Rattle.btx_machine.proofs.LawLemmas as machine
use Rattle.btx_core.specs.declared.found.FilesRead.{FilesRead}
use Rattle.btx_core.specs.declared.found.FilesRead.TheVariants.{Ends, Found}
use Rattle.btx_core.specs.declared.options.Options.{Options}
use Rattle.btx_core.specs.refinement.Files.Readings.{job_named, reading_of}
use Rattle.btx_run.specs.laws.Laws.{BudgetLaw}
use Rattle.btx_core.specs.language.Files.Counts.{counts_of}
use Rattle.btx_core.specs.refinement.ComputedProduct.{product_of_files}
use Rattle.btx_run.specs.refinement.Files.Logging.{bytes_of_lines}
use Rattle.btx_run.specs.refinement.Product.{logged_before, work_in}

-- the same lines before both
behind_lines : (lines : List Line) (shorter longer : Product) → Foretells shorter longer → Foretells (logged_before lines shorter) (logged_before lines longer)
behind_lines lines shorter longer law = record {
  bbl = law.bbl;
  log = (
    law.log.0,
    append_assoc (bytes_of_lines lines) longer.log_so_far _ ∙ ap (λ bytes. bytes_of_lines lines ++ bytes) law.log.1
        ∙ sym (append_assoc (bytes_of_lines lines) shorter.log_so_far law.log.0),
  );
  same = λ ended. ap (logged_before lines) (law.same ended);
}

-- one product, whatever the budget
always : (product : Product) → Foretells product product
always product = record { bbl = ([], sym (append-nil product.bbl)); log = (_, refl); same = λ ended. refl }

after : (job : AuxJob) (read : FilesRead) (options : Options) (counts : LogCounts) → IsLineLength options.line → (few many : ℕ) → few ≤ many
    → Foretells (product_of_files job read options counts few) (product_of_files job read options counts many)
after job (Ends end) options counts line few many le = always _
after job (Found found) options counts line few many le = machine.holds (work_in job found options) counts options.line line few many le

pub holds : BudgetLaw
holds = λ files name options line few many le.
    let read = reading_of files name in
    behind_lines read.lines _ _ (after (job_named files name) read.gives options (counts_of read.lines) line few many le)
