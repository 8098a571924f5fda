-- What a log counts of the lines that were noted.
use Rattle.std.specs.Prelude.{◌≡◌, ℕ, Bool, List, [], ◌∷◌, Option, None, Result, IfOk}
use Rattle.btx_text.specs.declared.log_line.LineKind.{LineKind}
use Rattle.btx_text.specs.language.LogLines.{Line, is_error, is_warning}
use Rattle.btx_machine.specs.declared.report.LogCounts.{LogCounts}
use Rattle.btx_machine.specs.declared.report.Report.{Report}
use Rattle.btx_machine.specs.language.Saying.{counted_if}
use Rattle.btx_machine.specs.laws.Noting.{AddsLines, NotedChange}
use Rattle.btx_machine.specs.laws.Reports.{log_counts}

-- what a notebook had noted when a log began to count, and what was counted before
pub record CountingStart : Type 0 where
  pub noted : Option (List Line)
  pub counts : LogCounts

-- of a notebook that shows nothing, with no line counted before
abbrev pub no_start : CountingStart
no_start = record { noted = None; counts = log_counts 0 0 }

-- a count after further lines: one more for each line of the kind that is counted, but at most the greatest number of 64 bits
abbrev pub counted_in : (LineKind → Bool) → List Line → ℕ → ℕ
counted_in is [] n = n
counted_in is (line ∷ lines) n = counted_in is lines (counted_if (is line.kind) n)

-- a notebook was handed lines, and the counts went up by the warnings and by the errors among them
pub record CountsNoted (noted : NotedChange) (before after : LogCounts) : Type 0 where
  pub lines : List Line
  pub are_noted : AddsLines noted.0 noted.1 lines
  pub warnings_are : after.warnings ≡ counted_in is_warning lines before.warnings
  pub errors_are : after.errors ≡ counted_in is_error lines before.errors

-- the report of an answer counts the warnings and the errors among the lines that were noted, after those that were counted before
abbrev pub ReportCounts : {F : Type 0} → Result Report F → NotedChange → LogCounts → Type 0
ReportCounts result noted before = IfOk result (λ report. CountsNoted noted before (log_counts report.warnings report.errors))
