-- What a call has left in the caller's memory.
use Rattle.std.specs.Prelude.{◌≡◌, ◌⊎◌, ◌<◌, ℕ, Bool, List, [], ◌++◌, Some, Result, Err, length, min, take, drop, if◌then◌else◌}
use Rattle.btx_aux.specs.language.Files.{Files}
use Rattle.btx_machine.specs.declared.report.Report.{Report}
use Rattle.btx_machine.specs.language.KeepingStep.{AtFault}
use Rattle.btx_machine.specs.language.Product.{Product, log_of}
use Rattle.btx_core.specs.refinement.ComputedProduct.{product, product_with}
use Rattle.btx_c.specs.declared.cause.Cause.{Cause}
use Rattle.btx_c.specs.declared.cause.Cause.TheVariants.{ListFull, LogFull, Memory}
use Rattle.btx_c.specs.declared.cause.TheConstants.{LIST_FULL, LOG_FULL}
use Rattle.btx_c.specs.declared.handed.BtxFile.{BtxFile}
use Rattle.btx_c.specs.declared.options.BtxOptions.{BtxOptions}
use Rattle.btx_c.specs.declared.report.BtxReport.{BtxReport}
use Rattle.btx_c.specs.CallerFiles.{OtherFiles, beside, file_in}
use Rattle.btx_c.specs.Options.{asked}
use Rattle.btx_c.specs.Reports.{in_numbers}

-- memory into which bytes were put, as many as there is room for; the rest stays
abbrev pub filled : List ℕ → List ℕ → List ℕ
filled room bytes = take (length room) bytes ++ drop (length bytes) room

-- some text was put into memory, and this is its length
pub record Wrote (len : ℕ) (memory : List ℕ × List ℕ) : Type 0 where
  pub text : List ℕ
  pub len_is : len ≡ length text
  pub memory_is : memory.1 ≡ filled memory.0 text

-- all files that there are: those that were handed in, and others
abbrev pub all_files : List BtxFile → OtherFiles → Files
all_files files others = beside files (file_in others)

-- the report, the list and the log are a product's
pub record IsOf (product : Product) (report : BtxReport) (list log : List ℕ × List ℕ) : Type 0 where
  pub report_is : report ≡ in_numbers product.report (length product.bbl) (length (log_of product))
  pub list_is : list.1 ≡ filled list.0 product.bbl
  pub log_is : log.1 ≡ filled log.0 (log_of product)

-- the report, the list and the log are those of the product of all files
abbrev pub Ran : List BtxFile → OtherFiles → List ℕ → BtxOptions → BtxReport → List ℕ × List ℕ → List ℕ × List ℕ → Type 0
Ran files others job options = IsOf (product (all_files files others) job (asked options))

-- how a run ended: for want of room, if the list or the log is longer than its room; for want of memory, if events were left out; and else as `ended` has it
abbrev pub outcome : Result Report Cause → Bool → Bool → Bool → Result Report Cause
outcome ended is_list_full is_log_full is_short =
    if is_list_full then Err ListFull else if is_log_full then Err LogFull else if is_short then Err Memory else ended

-- a room is too small for the product of all files, and the report says which one
abbrev pub Overflows : List BtxFile → OtherFiles → List ℕ → BtxOptions → BtxReport → List ℕ → List ℕ → Type 0
Overflows files others job options report list log =
    let whole = product (all_files files others) job (asked options) in
    ((report.end ≡ LIST_FULL) × (length list < length whole.bbl)) ⊎ ((report.end ≡ LOG_FULL) × (length log < length (log_of whole)))

-- what was written of the list and of the log are prefixes of the product's and keep step; the report says how many bytes of them stand in the memory
pub record Broke (files : List BtxFile) (others : OtherFiles) (job : List ℕ) (options : BtxOptions) (report : BtxReport)
    (list log : List ℕ × List ℕ) : Type 0 where
  pub wrote_list : List ℕ
  pub wrote_log : List ℕ
  pub begun : AtFault (Some [], Some []) (Some wrote_list, Some wrote_log) (product_with (all_files files others) job (asked options)) options.budget
  pub list_len : report.list_len ≡ min (length wrote_list) (length list.0)
  pub log_len : report.log_len ≡ min (length wrote_log) (length log.0)
  pub list_is : list.1 ≡ filled list.0 wrote_list
  pub log_is : log.1 ≡ filled log.0 wrote_log
