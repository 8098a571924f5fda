-- What a run wrote is the one thing that stands in the relation between a job and its product.
use Rattle.std.proofs.Common.{◌≡◌, ℕ, ◌≤◌, List, ◌++◌, refl, ap, subst}
use Rattle.std.specs.List.{flat_map}
use Rattle.btx_aux.specs.language.Files.{Files}
use Rattle.btx_aux.specs.language.Job.{AuxJob}
use Rattle.btx_core.specs.declared.found.FilesRead.{FilesRead}
use Rattle.btx_core.specs.declared.found.FilesRead.TheVariants.{Ends, Found}
use Rattle.btx_core.specs.declared.options.Options.{Options}
use Rattle.btx_core.specs.language.Files.Counts.{counts_of}
use Rattle.btx_core.specs.language.Product.{IsTheOne}
use Rattle.btx_core.specs.refinement.Files.Readings.{job_named, reading_of}
use Rattle.btx_core.specs.refinement.ComputedProduct.{product, product_of_files, product_with}
use Rattle.btx_core.proofs.SameProductLemmas as core
use Rattle.btx_machine.specs.declared.report.LogCounts.{LogCounts}
use Rattle.btx_machine.specs.declared.report.Report.{Report}
use Rattle.btx_machine.specs.language.KeepingStep.{Received, AtFault, Completes}
use Rattle.btx_machine.specs.language.Product.{Product}
use Rattle.btx_machine.specs.language.Saying.{ended_line}
use Rattle.btx_run.specs.language.Written.{BeganTheProduct, WroteTheProduct}
use Rattle.btx_text.specs.language.LogLines.{Line}

-- the product with numbers is the one thing in the relation
is_one : (files : Files) (name : List ℕ) (options : Options) → 3 ≤ options.line → IsTheOne files name options (product files name options)
is_one files name options wide = record { stands = core.is_product files name options wide; alone = λ other. (core.holds files name options wide other).0 }

-- of the options what follows the files takes all but the budget, which is given to it
of_budget : (options : Options) (steps : ℕ) (job : AuxJob) (read : FilesRead) (counts : LogCounts)
    → product_of_files job read (record options { budget = steps }) counts steps ≡ product_of_files job read options counts steps
of_budget options steps job (Ends end) counts = refl
of_budget options steps job (Found found) counts = refl

with_budget : (files : Files) (name : List ℕ) (options : Options) (steps : ℕ) → product files name (record options { budget = steps })
    ≡ product_with files name options steps
with_budget files name options steps =
    let read = reading_of files name in
    ap (λ (rest : Product). record rest { log_so_far = flat_map (λ (line : Line). ended_line line.text) read.lines ++ rest.log_so_far })
    (of_budget options steps (job_named files name) read.gives (counts_of read.lines))

pub wrote : (files : Files) (name : List ℕ) (options : Options) (before after : Received) (report : Report) → 3 ≤ options.line
    → Completes report before after (product files name options) → WroteTheProduct files name options before after report
wrote files name options before after report wide completes =
    record { product = product files name options; is_one = is_one files name options wide; completes = completes }

pub began : (files : Files) (name : List ℕ) (options : Options) (before after : Received) → 3 ≤ options.line
    → AtFault before after (product_with files name options) options.budget → BeganTheProduct files name options before after
began files name options before after wide fails = record {
  product = product_with files name options;
  is_one = λ steps. subst (IsTheOne files name (record options { budget = steps })) (with_budget files name options steps)
      (is_one files name (record options { budget = steps }) wide);
  fails = fails;
}
