-- What a whole run writes and answers, by what its parts do.
use Rattle.std.proofs.Common.{◌≡◌, ℕ, ◌+◌, ◌≤◌, inl, inr, List, [], Option, Result, Ok, Err, IfOk, OnErr, OnOk, length, refl, sym, ap, ◌∙◌, subst, append_assoc}
use Rattle.std.proofs.Common.{map, arith}
use Rattle.std.specs.Io.KnownBytes.{Appends}
use Rattle.std.proofs.KnownBytes.{Appends-trans, Appends-nil}
use Rattle.btx_text.specs.declared.fault.Fault.{Fault}
use Rattle.btx_text.specs.declared.fault.Fault.TheVariants.{Memory, Device, FileLimit, StringLimit}
use Rattle.btx_text.specs.declared.failures.Failures.{Failures}
use Rattle.btx_text.specs.language.Counts.{Change}
use Rattle.btx_text.specs.language.Limits.{greatest_file}
use Rattle.btx_text.specs.language.LogLines.{Line}
use Rattle.btx_aux.specs.language.Files.{Files}
use Rattle.btx_aux.specs.language.Job.{AuxJob}
use Rattle.btx_out.specs.language.Pieces.{AppendsPrefix}
use Rattle.btx_out.proofs.PieceLemmas.{prefix-after, prefix-longer, prefix-none_same}
use Rattle.btx_bst.specs.language.Style.{Style}
use Rattle.btx_bst.specs.language.StyleText.{style_of}
use Rattle.btx_bst.specs.refinement.StyleReads.{Reads}
use Rattle.btx_bib.specs.language.Databases.{library_of}
use Rattle.btx_bib.specs.language.Library.{Library}
use Rattle.btx_bib.specs.language.Requests.{asked}
use Rattle.btx_step.specs.language.Jobs.{Job}
use Rattle.btx_aux.specs.refinement.Faults.{CountsOfOne}
use Rattle.btx_machine.specs.refinement.Faults.{CountsOfTwo}
use Rattle.btx_machine.specs.language.KeepingStep.{Received, AtFault, BothBegin, BothExtend, Completes}
use Rattle.btx_machine.specs.language.Product.{Product, product_of, style_product}
use Rattle.btx_machine.specs.language.Reports.{last_line}
use Rattle.btx_machine.specs.language.Saying.{ended_line}
use Rattle.btx_machine.specs.language.States.{Outcome, Done, Stopped, Limit}
use Rattle.btx_machine.specs.declared.report.End.TheVariants.{NoTopFile}
use Rattle.btx_machine.specs.declared.report.Report.{Report}
use Rattle.btx_machine.specs.declared.report.LogCounts.{LogCounts}
use Rattle.btx_machine.proofs.ComesLemmas.{ok_map}
use Rattle.btx_machine.proofs.DeepLemmas as depth
use Rattle.btx_core.specs.declared.found.FilesRead.{FilesRead}
use Rattle.btx_core.specs.declared.found.JobFiles.{JobFiles}
use Rattle.btx_core.specs.declared.options.Options.{Options}
use Rattle.btx_core.specs.language.Files.Counts.{counts_of}
use Rattle.btx_core.specs.refinement.Files.Readings.{Logged, job_named}
use Rattle.btx_run.specs.refinement.Files.Readings.{IsRead, files_read}
use Rattle.btx_core.specs.refinement.Contents.{style_in}
use Rattle.btx_core.specs.refinement.ComputedProduct.{product, product_of_files, product_with}
use Rattle.btx_run.specs.refinement.Files.Logging.{Logs, bytes_of_lines}
use Rattle.btx_run.specs.refinement.Product.{logged_before, product_of_reading, work_in, work_of}
use Rattle.btx_machine.specs.refinement.KeepingStep.{LastLineBehindList, KeepsStep}
use Rattle.btx_machine.specs.refinement.Outputs.{Journal}
use Rattle.btx_machine.specs.refinement.Product.{product_early, executed}
use Rattle.btx_run.specs.refinement.Files.Counts.{counts_at}
use Rattle.btx_machine.specs.laws.Reports.{log_counts}
use Rattle.btx_run.specs.refinement.Contents.{database_of}

-- ---- what the style works on

pub found_is : (job : AuxJob) (found : JobFiles) (options : Options) (style : Style) (library : Library)
    → style ≡ style_in found
    → library ≡ library_of (asked style job options.min_crossrefs) style.macros (map database_of found.databases)
    → work_of style library options ≡ work_in job found options
found_is job found options style library is_style is_library =
    ap (λ (library : Library). work_of style library options) is_library
    ∙ ap (λ (style : Style). work_of style (library_of (asked style job options.min_crossrefs) style.macros (map database_of found.databases)) options) is_style

-- the style is read from the text that was found
pub read_is : (job : AuxJob) (found : JobFiles) (options : Options) (style : Style) (library : Library) {name bytes : List ℕ} → style ≡ style_of name bytes
    → name ≡ found.style.name → bytes ≡ found.style.bytes
    → library ≡ library_of (asked style job options.min_crossrefs) style.macros (map database_of found.databases)
    → work_of style library options ≡ work_in job found options
read_is job found options style library {name} {bytes} is_style is_name is_bytes is_library =
    found_is job found options style library (is_style ∙ ap (λ name. style_of name bytes) is_name ∙ ap (style_of found.style.name) is_bytes) is_library

pub completes_of : (a b : Received) (counts : LogCounts) (line_length budget : ℕ) (here there : Job) → here ≡ there → (r : Result Report Fault)
    → IfOk r (λ report. Completes report a b (style_product here counts line_length budget))
    → IfOk r (λ report. Completes report a b (style_product there counts line_length budget))
completes_of a b counts line_length budget here there is r h =
    subst (λ work. IfOk r (λ report. Completes report a b (style_product work counts line_length budget))) is h

pub fails_of : (a b : Received) (counts : LogCounts) (line_length budget : ℕ) (here there : Job) → here ≡ there → (r : Result Report Fault)
    → OnErr r (AtFault a b (style_product here counts line_length) budget) → OnErr r (AtFault a b (style_product there counts line_length) budget)
fails_of a b counts line_length budget here there is r h = subst (λ work. OnErr r (AtFault a b (style_product work counts line_length) budget)) is h

-- what a log counted, as one value
pub counts_are : (counted : LogCounts) (warnings errors : ℕ) → counted.warnings ≡ warnings → counted.errors ≡ errors → counted ≡ log_counts warnings errors
counts_are counted warnings errors these those = ap (λ warnings. log_counts warnings counted.errors) these ∙ ap (log_counts warnings) those

-- a log without warnings and errors has the counts of no lines
pub counts_of_none : (journal : Journal) → journal.warnings ≡ 0 → journal.errors ≡ 0 → counts_at journal ≡ counts_of []
counts_of_none journal none_warns none_errs = ap (λ warnings. log_counts warnings journal.errors) none_warns ∙ ap (log_counts 0) none_errs

-- no more than 4,096 bodies are open at once
pub never_deeper : (a b : Received) (work : Job) (counts : LogCounts) (line_length budget : ℕ) (r : Result Report Fault)
    → IfOk r (λ report. Completes report a b (style_product work counts line_length budget)) → IfOk r (λ report. report.deepest ≤ 4096)
never_deeper a b work counts line_length budget =
    ok_map (λ report completes. subst (λ (report : Report). report.deepest ≤ 4096) (sym completes.report_is) (depth.holds work counts line_length budget))

-- a run whose style was executed had its top file
had_top_file : (line_length budget : ℕ) (outcome : Outcome) → (product_of line_length budget outcome).report.end ≡ NoTopFile → ⊥
had_top_file line_length budget (Done s left) is = cc
had_top_file line_length budget (Stopped s) is = cc
had_top_file line_length budget (Limit kind s left) is = cc

pub touched_with_top_file : {W : Type 0} (bbl after : W) (a b : Received) (work : Job) (counts : LogCounts) (line_length budget : ℕ) (r : Result Report Fault)
    → IfOk r (λ report. Completes report a b (style_product work counts line_length budget)) → IfOk r (λ report. report.end ≡ NoTopFile → after ≡ bbl)
touched_with_top_file bbl after a b work counts line_length budget =
    ok_map (λ report completes is. absurd
    (had_top_file line_length budget (executed work counts budget) (sym (ap (λ (report : Report). report.end) completes.report_is) ∙ is)))

-- ---- a run that ends at once

pub completes_early : (b l m : Option (List ℕ)) (answered report : Report) → answered ≡ report → (r : Result Report Fault)
    → IfOk r (λ answer. answer ≡ answered) → OnOk r (Appends l m (ended_line (last_line answered)))
    → IfOk r (λ answer. Completes answer (b, l) (b, m) (product_early report))
completes_early b l m answered report is (Ok answer) same writes = record {
  report_is = same ∙ is;
  bbl_whole = Appends-nil b;
  log_whole = subst (λ report. Appends l m (ended_line (last_line report))) is writes;
}
completes_early b l m answered report is (Err fault) same writes = tt

pub fails_early : (b l m : Option (List ℕ)) (answered report : Report) (budget : ℕ) → answered ≡ report → AppendsPrefix l m (ended_line (last_line answered))
    → AtFault (b, l) (b, m) (λ steps. product_early report) budget
fails_early b l m answered report budget is part = record { prefixes = begins; last_line = inl (Appends-nil b); step = inl begins }
  where
    begins : BothBegin (b, l) (b, m) (product_early report)
    begins = record { bbl_begins = prefix-none_same b []; log_begins = subst (λ report. AppendsPrefix l m (ended_line (last_line report))) is part }

-- ---- after the lines that were logged before

module _ (lines : List Line) (b c l m n : Option (List ℕ)) (lines_logged : Appends l m (bytes_of_lines lines)) where
  pub completes_behind : (report : Report) (whole : Product) → Completes report (b, m) (c, n) whole → Completes report (b, l) (c, n) (logged_before lines whole)
  completes_behind report whole completes = record {
    report_is = completes.report_is;
    bbl_whole = completes.bbl_whole;
    log_whole = subst (Appends l n) (sym (append_assoc (bytes_of_lines lines) whole.log_so_far _)) (Appends-trans l m n _ _ lines_logged completes.log_whole);
  }

  begins_behind : (whole : Product) → BothBegin (b, m) (c, n) whole → BothBegin (b, l) (c, n) (logged_before lines whole)
  begins_behind whole begins = record {
    bbl_begins = begins.bbl_begins;
    log_begins = subst (AppendsPrefix l n) (sym (append_assoc (bytes_of_lines lines) whole.log_so_far _))
        (prefix-after l m n _ _ lines_logged begins.log_begins);
  }

  last_behind : (whole : Product) → LastLineBehindList (b, m) (c, n) whole → LastLineBehindList (b, l) (c, n) (logged_before lines whole)
  last_behind whole (inl list) = inl list
  last_behind whole (inr part) = inr (prefix-after l m n _ _ lines_logged part)

  extends_behind : (whole : Product) → BothExtend (b, m) (c, n) whole → BothExtend (b, l) (c, n) (logged_before lines whole)
  extends_behind whole extends = record {
    bbl_extends = extends.bbl_extends;
    log_extends = record {
      more = extends.log_extends.more;
      received = subst (Appends l n) (sym (append_assoc (bytes_of_lines lines) whole.log_so_far extends.log_extends.more))
          (Appends-trans l m n _ _ lines_logged extends.log_extends.received);
    };
  }

  keeps_behind : (make : ℕ → Product) (budget : ℕ) → KeepsStep (b, m) (c, n) make budget → KeepsStep (b, l) (c, n) (λ steps. logged_before lines (make steps))
      budget
  keeps_behind make budget (inl begins) = inl (begins_behind (make 0) begins)
  keeps_behind make budget (inr within) = inr (record {
    steps = within.steps;
    within = within.within;
    extends = extends_behind (make within.steps) within.extends;
    begins = begins_behind (make (within.steps + 1)) within.begins;
  })

  pub fails_behind : (make : ℕ → Product) (budget : ℕ) → AtFault (b, m) (c, n) make budget → AtFault (b, l) (c, n) (λ steps. logged_before lines (make steps))
      budget
  fails_behind make budget fault = record {
    prefixes = begins_behind (make budget) fault.prefixes;
    last_line = last_behind (make budget) fault.last_line;
    step =
        keeps_behind make budget fault.step;
  }

-- a fault while these lines were logged
pub fails_in_lines : (lines : List Line) (b l m : Option (List ℕ)) (make : ℕ → Product) (budget : ℕ) → AppendsPrefix l m (bytes_of_lines lines)
    → AtFault (b, l) (b, m) (λ steps. logged_before lines (make steps)) budget
fails_in_lines lines b l m make budget part = record { prefixes = begins budget; last_line = inr (prefix-longer l m _ _ part); step = inl (begins 0) }
  where
    begins : (steps : ℕ) → BothBegin (b, l) (b, m) (logged_before lines (make steps))
    begins steps = record { bbl_begins = prefix-none_same b _; log_begins = prefix-longer l m _ _ (prefix-longer l m _ _ part) }

-- ---- after the reading of the files

-- what was logged, by the counts of its lines
pub counts_of_lines : (warnings errors : ℕ) (first counts : LogCounts) (log : Received) (lines : List Line)
    → warnings ≡ counts.warnings → errors ≡ counts.errors → first ≡ counts_of [] → Logs (first, counts) log lines → log_counts warnings errors ≡ counts_of lines
counts_of_lines warnings errors first counts log lines is_warnings is_errors new logs =
    ap (λ warnings. log_counts warnings errors) is_warnings
    ∙ ap (log_counts counts.warnings) is_errors
    ∙ ap (λ (counts : LogCounts). log_counts counts.warnings counts.errors) (logs.counts [] new)

module _ (job : AuxJob) (options : Options) (read : FilesRead) (given : LogCounts) (first counts : LogCounts) (b c l m n : Option (List ℕ))
    (is_given : given ≡ log_counts counts.warnings counts.errors) (new : first ≡ counts_of []) where
  -- what follows is what follows the reading
  follows : (part : Logged FilesRead) → IsRead read (first, counts) (l, m) part → product_of_files job read options given
      ≡ product_of_files job part.gives options (counts_of part.lines)
  follows part is_read =
      ap (λ read. product_of_files job read options given) is_read.gives
      ∙ ap (product_of_files job part.gives options) (is_given ∙ counts_of_lines counts.warnings counts.errors first counts (l, m) part.lines refl refl new
      is_read.logs)

  pub completes_reading : (report : Report) (budget : ℕ) (part : Logged FilesRead) → IsRead read (first, counts) (l, m) part
      → Completes report (b, m) (c, n) (product_of_files job read options given budget)
      → Completes report (b, l) (c, n) (product_of_reading job part options budget)
  completes_reading report budget part is_read completes =
      completes_behind part.lines b c l m n is_read.logs.received report _
      (subst (λ (make : ℕ → Product). Completes report (b, m) (c, n) (make budget)) (follows part is_read) completes)

  pub fails_reading : (budget : ℕ) (part : Logged FilesRead) → IsRead read (first, counts) (l, m) part
      → AtFault (b, m) (c, n) (product_of_files job read options given) budget → AtFault (b, l) (c, n) (product_of_reading job part options) budget
  fails_reading budget part is_read fault =
      fails_behind part.lines b c l m n is_read.logs.received _ budget
      (subst (λ (make : ℕ → Product). AtFault (b, m) (c, n) make budget) (follows part is_read) fault)

-- what holds from one end of a log to another holds between equal ones
pub behind_ends : {A : Type 0} (P : A → A → Type 0) (l l' n n' : A) → l ≡ l' → n ≡ n' → P l n → P l' n'
behind_ends P l l' n n' begins ends p = subst (P l') ends (subst (λ l. P l n) begins p)

-- ---- after the `.aux` files

module _ (name : List ℕ) (options : Options) (a z : Received) (job : AuxJob) where
  pub completes_named : (report : Report) (files : Files) → job ≡ job_named files name
      → Completes report a z (product_of_reading job (files_read files job) options options.budget)
      → Completes report a z (product files name options)
  completes_named report files is completes =
      subst (λ (job : AuxJob). Completes report a z (product_of_reading job (files_read files job) options options.budget)) is completes

  pub fails_named : (files : Files) → job ≡ job_named files name → AtFault a z (product_of_reading job (files_read files job) options) options.budget
      → AtFault a z (product_with files name options) options.budget
  fails_named files is fails = subst (λ (job : AuxJob). AtFault a z (product_of_reading job (files_read files job) options) options.budget) is fails

-- ---- counts of failures

pub counts_of_memory : (r : Result Report Fault) (bbl log : Failures) → r ≡ Err Memory → CountsOfTwo r (bbl, bbl) (log, log)
counts_of_memory r bbl log is = subst (λ (r : Result Report Fault). CountsOfTwo r (bbl, bbl) (log, log)) (sym is) (refl, refl)

pub counts_of_style : (r : Result Report Fault) (fault : Fault) (name text : List ℕ) (bbl log : Failures) → r ≡ Err fault → Reads (Err fault) name text
    → length text ≤ greatest_file
    → CountsOfTwo r (bbl, bbl) (log, log)
counts_of_style r Memory name text bbl log is reads fits = counts_of_memory r bbl log is
counts_of_style r FileLimit name text bbl log is reads fits = absurd (omega (arith, reads, fits))
counts_of_style r Device name text bbl log is reads fits = absurd reads
counts_of_style r StringLimit name text bbl log is reads fits = absurd reads

pub counts_of_end : (r : Result Report Fault) (bbl : Failures) (log : Change) → CountsOfOne r log → CountsOfTwo r (bbl, bbl) log
counts_of_end (Ok report) bbl log counts = (refl, counts)
counts_of_end (Err Memory) bbl log counts = (refl, counts)
counts_of_end (Err Device) bbl log counts = inr (refl, counts)
counts_of_end (Err FileLimit) bbl log counts = counts
counts_of_end (Err StringLimit) bbl log counts = counts
