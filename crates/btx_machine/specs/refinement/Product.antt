-- Parts of a product, as the code's clauses have them.
use Rattle.std.specs.Prelude.{ℕ, List, []}
use Rattle.btx_out.specs.language.Breaking.{written_of}
use Rattle.btx_machine.specs.language.States.{Out, State, state, Outcome}
use Rattle.btx_machine.specs.declared.report.Report.{Report}
use Rattle.btx_machine.specs.language.Product.{Product}
use Rattle.btx_machine.specs.declared.ending.Ending.{Ending}
use Rattle.btx_machine.specs.language.Reports.{end_as, report_of}
use Rattle.btx_machine.specs.declared.report.LogCounts.{LogCounts}
use Rattle.btx_step.specs.language.Jobs.{Job}
use Rattle.btx_step.specs.language.Starts.{first_store}
use Rattle.btx_machine.specs.language.Items.{do_items}
use Rattle.btx_machine.specs.laws.Reports.{log_counts}

-- the report of a run that ended so in a state
abbrev pub report_at : Ending → ℕ → State → Report
report_at end steps s = report_of (end_as end) steps s.store.deepest (log_counts s.out.warnings s.out.errors)

-- no output yet; the counts are those of the warnings and errors that were logged before
abbrev pub no_out : LogCounts → Out
no_out counts = record { lines = []; pending = []; log = []; warnings = counts.warnings; errors = counts.errors }

-- the state before the first command: nothing is written, and all variables have the values with which they begin
abbrev pub first : Job → LogCounts → State
first job counts = state (first_store job) (no_out counts)

-- the outcome of the style's commands and messages, one after another, from the first state on
abbrev pub executed : Job → LogCounts → ℕ → Outcome
executed job counts budget = do_items job job.style.items [] budget (first job counts)

-- what has been written of the list so far, which is broken into lines for a length of `line_length` bytes: the lines that have ended, and the part of
-- the pending one that can't change
abbrev pub so_far : ℕ → Out → List ℕ
so_far line_length out = written_of line_length out.lines out.pending

-- the product of a run that ends before its style is executed
abbrev pub product_early : Report → Product
product_early report = record { bbl = []; log_so_far = []; report = report }
