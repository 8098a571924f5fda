-- The product of a run whose files are read: what it writes from there on, and what it answers.
use Rattle.std.specs.Prelude.{ℕ, ◌-◌, List, [], ◌++◌}
use Rattle.std.specs.List.{flat_map}
use Rattle.btx_out.specs.language.Breaking.{wrap, written_of}
use Rattle.btx_out.specs.language.Breakers.{written_at_end}
use Rattle.btx_step.specs.language.Jobs.{Job}
use Rattle.btx_step.specs.language.Starts.{first_store}
use Rattle.btx_machine.specs.declared.ending.Ending.{Ending}
use Rattle.btx_machine.specs.declared.ending.Ending.TheVariants as ending
use Rattle.btx_machine.specs.declared.report.Report.{Report}
use Rattle.btx_machine.specs.declared.report.LogCounts.{LogCounts}
use Rattle.btx_machine.specs.language.States.{Out, State, state, Outcome, Done, Stopped, Limit}
use Rattle.btx_machine.specs.language.Saying.{ended_line}
use Rattle.btx_machine.specs.language.Reports.{end_as, report_of, last_line}
use Rattle.btx_machine.specs.language.Items.{do_items}

-- the list of references, the log before its last line, and the report, which that line gives
pub record Product : Type 0 where
  pub bbl : List ℕ
  pub log_so_far : List ℕ
  pub report : Report

-- the whole log: its last line gives the report
abbrev pub log_of : Product → List ℕ
log_of product = product.log_so_far ++ ended_line (last_line product.report)

-- the list of references at an end, in lines of at most `line_length` bytes: where the run finished, a pending line that isn't empty is ended; else
-- the lines that have ended stand, and the part of the pending one that can't change
abbrev pub bbl_at : ℕ → Ending → Out → List ℕ
bbl_at line_length ending.Finished out = flat_map (wrap line_length) out.lines ++ written_at_end line_length out.pending
bbl_at line_length _ out = written_of line_length out.lines out.pending

-- the product of a run that ended in a state after some steps: the list of references, the log before its last line, and the report
abbrev pub product_at : ℕ → Ending → ℕ → State → Product
product_at line_length end steps s = record {
  bbl = bbl_at line_length end s.out;
  log_so_far = s.out.log;
  report = report_of (end_as end) steps s.store.deepest (record { warnings = s.out.warnings; errors = s.out.errors });
}

-- the product of an outcome, with a budget; a stopped run took all its steps
abbrev pub product_of : ℕ → ℕ → Outcome → Product
product_of line_length budget (Done s left) = product_at line_length ending.Finished (budget - left) s
product_of line_length budget (Stopped s) = product_at line_length ending.Stopped budget s
product_of line_length budget (Limit kind s left) = product_at line_length (ending.Limit kind) (budget - left) s

-- the product of a style, in lines of at most `line_length` bytes, with a budget. Its commands and messages are executed one after another, from the
-- state `first`: there nothing is written, and all variables have the values with which they begin. `counts` are the numbers of warnings and errors
-- that were logged before
abbrev pub style_product : Job → LogCounts → ℕ → ℕ → Product
style_product job counts line_length budget =
    let first = state (first_store job) (record { lines = []; pending = []; log = []; warnings = counts.warnings; errors = counts.errors }) in
    product_of line_length budget (do_items job job.style.items [] budget first)
