-- Worked reports: the last line of the log, and the status, for each way in which a run ends.
use Rattle.std.specs.Prelude.{◌≡◌, ℕ, List, [], ◌∷◌, codes}
use Rattle.btx_text.specs.declared.limits.Limit.TheVariants.{Calls, File, Files, Literals, Loops, String}
use Rattle.btx_machine.specs.declared.report.End.{End}
use Rattle.btx_machine.specs.declared.report.End.TheVariants as ended
use Rattle.btx_machine.specs.declared.report.Report.{Report}
use Rattle.btx_machine.specs.language.Reports.{last_line, report_of}
use Rattle.btx_machine.specs.laws.Reports.{log_counts}

-- how a run ended, its warnings, error messages and steps; and the last line of its log, and its status
pub record WorkedReport : Type 0 where
  pub end : End
  pub warnings : ℕ
  pub errors : ℕ
  pub steps : ℕ
  pub line : List ℕ
  pub status : ℕ

-- a worked report, of its six parts: a run that finished in 4 steps without a message has the status 0
abbrev pub report_row : End → ℕ → ℕ → ℕ → List ℕ → ℕ → WorkedReport
report_row end warnings errors steps line status = record { end = end; warnings = warnings; errors = errors; steps = steps; line = line; status = status }

-- each end
abbrev pub reports : List WorkedReport
reports =
    report_row ended.Finished 0 0 4 (codes "Ended: finished, warnings 0, errors 0, steps 4") 0
    -- warnings don't change the status, and errors do
    ∷ report_row ended.Finished 3 0 25 (codes "Ended: finished, warnings 3, errors 0, steps 25") 0
    ∷ report_row ended.Finished 1 12 25 (codes "Ended: finished, warnings 1, errors 12, steps 25") 2
    ∷ report_row ended.Stopped 0 0 100 (codes "Ended: stopped, warnings 0, errors 0, steps 100") 4
    ∷ report_row ended.Stopped 0 1 100 (codes "Ended: stopped, warnings 0, errors 1, steps 100") 4
    -- each limit
    ∷ report_row (ended.Limit Literals) 0 0 4006 (codes "Ended: limit literals, warnings 0, errors 0, steps 4006") 3
    ∷ report_row (ended.Limit Calls) 0 0 24573 (codes "Ended: limit calls, warnings 0, errors 0, steps 24573") 3
    ∷ report_row (ended.Limit Loops) 0 0 20485 (codes "Ended: limit loops, warnings 0, errors 0, steps 20485") 3
    ∷ report_row (ended.Limit String) 0 2 43 (codes "Ended: limit string, warnings 0, errors 2, steps 43") 3
    ∷ report_row (ended.Limit File) 0 0 0 (codes "Ended: limit file, warnings 0, errors 0, steps 0") 3
    ∷ report_row (ended.Limit Files) 0 0 0 (codes "Ended: limit files, warnings 0, errors 0, steps 0") 3
    ∷ report_row ended.NoTopFile 0 0 0 (codes "Ended: no top file, warnings 0, errors 0, steps 0") 3
    ∷ []

-- the report of a row
abbrev pub report_in : WorkedReport → Report
report_in row = report_of row.end row.steps 1 (log_counts row.warnings row.errors)

-- each report has its line and its status
abbrev pub AreWritten : List WorkedReport → Type 0
AreWritten [] = Unit {0}
AreWritten (row ∷ rows) = (last_line (report_in row) ≡ row.line) × ((report_in row).status ≡ row.status) × AreWritten rows
