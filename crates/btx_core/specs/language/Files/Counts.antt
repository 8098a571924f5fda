-- How many warnings and errors a log has. A count that would be above the greatest number of 64 bits stays there (this project's own).
use Rattle.std.specs.Prelude.{◌-◌, ◌^◌, min, count_by, List}
use Rattle.btx_text.specs.language.LogLines.{Line, is_error, is_warning}
use Rattle.btx_machine.specs.declared.report.LogCounts.{LogCounts}

-- the number of warnings and of errors among the lines, each at most the greatest number of 64 bits
abbrev pub counts_of : List Line → LogCounts
counts_of lines = record {
  warnings = min (count_by (λ line. is_warning line.kind) lines) (2 ^ 64 - 1);
  errors = min (count_by (λ line. is_error line.kind) lines) (2 ^ 64 - 1);
}
