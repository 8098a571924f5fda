-- The names that the code's clauses have for parts of the product.
use Rattle.btx_bst.specs.language.Style.{Style}
use Rattle.btx_bib.specs.language.Library.{Library}
use Rattle.btx_step.specs.language.Jobs.{Job}
use Rattle.btx_core.specs.declared.options.Options.{Options}
use Rattle.btx_aux.specs.language.Job.{AuxJob}
use Rattle.btx_core.specs.declared.found.JobFiles.{JobFiles}
use Rattle.btx_core.specs.refinement.Contents.{style_in}
use Rattle.btx_run.specs.refinement.Contents.{library_in}
use Rattle.std.specs.Prelude.{List, ◌++◌, ℕ}
use Rattle.btx_text.specs.language.LogLines.{Line}
use Rattle.btx_machine.specs.language.Product.{Product}
use Rattle.btx_run.specs.refinement.Files.Logging.{bytes_of_lines}
use Rattle.btx_core.specs.refinement.ComputedProduct.{product_of_files}
use Rattle.btx_core.specs.declared.found.FilesRead.{FilesRead}
use Rattle.btx_core.specs.language.Files.Counts.{counts_of}
use Rattle.btx_core.specs.refinement.Files.Readings.{Logged}

-- what the machine works on: the style and the library of the files that were found, and what was asked
abbrev pub work_in : AuxJob → JobFiles → Options → Job
work_in job found options = record {
  style = style_in found;
  library = library_in job found options.min_crossrefs;
  mode = options.text;
  entry_max = options.entry_max;
  global_max = options.global_max;
}

-- a product with further log lines before its own
abbrev pub logged_before : List Line → Product → Product
logged_before lines product = record product { log_so_far = bytes_of_lines lines ++ product.log_so_far }

-- the product of a job whose files were read so, with a budget: what was logged, and what follows
abbrev pub product_of_reading : AuxJob → Logged FilesRead → Options → ℕ → Product
product_of_reading job read options budget = logged_before read.lines (product_of_files job read.gives options (counts_of read.lines) budget)

-- what a style works on: the style itself, the library, and what was asked
abbrev pub work_of : Style → Library → Options → Job
work_of style library options = record { style = style; library = library; mode = options.text; entry_max = options.entry_max; global_max = options.global_max }
