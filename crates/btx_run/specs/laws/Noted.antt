-- What the report of a run says of the lines that were noted.
use Rattle.std.specs.Prelude.{◌≡◌, List}
use Rattle.btx_text.specs.language.LogLines.{Line}
use Rattle.btx_machine.specs.declared.report.Report.{Report}
use Rattle.btx_machine.specs.laws.Noting.{AddsLines, NotedChange}
use Rattle.btx_machine.specs.laws.Reports.{log_counts}
use Rattle.btx_core.specs.language.Files.Counts.{counts_of}

-- the report counts as many warnings and as many errors as there are among the lines that were noted
pub record CountsOfNoted (noted : NotedChange) (report : Report) : Type 0 where
  pub lines : List Line
  pub are_noted : AddsLines noted.0 noted.1 lines
  pub counts_are : log_counts report.warnings report.errors ≡ counts_of lines
