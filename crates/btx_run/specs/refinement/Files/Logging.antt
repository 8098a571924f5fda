-- The bytes of log lines, and what a log received while lines were logged.
use Rattle.std.specs.Prelude.{◌≡◌, ℕ, List, ◌++◌, Option}
use Rattle.std.specs.Io.KnownBytes.{Appends}
use Rattle.btx_text.specs.language.LogLines.{Line}
use Rattle.btx_machine.specs.declared.report.LogCounts.{LogCounts}
use Rattle.btx_core.specs.language.Files.Counts.{counts_of}
use Rattle.std.specs.List.{flat_map}
use Rattle.btx_machine.specs.language.Saying.{ended_line}

-- the bytes of log lines, each with its line feed
abbrev pub bytes_of_lines : List Line → List ℕ
bytes_of_lines lines = flat_map (λ line. ended_line line.text) lines

-- what the log received before and after
abbrev pub LogReceived : Type 0
LogReceived = Option (List ℕ) × Option (List ℕ)

-- the counts before and after
abbrev pub Counted : Type 0
Counted = LogCounts × LogCounts

-- these lines were logged: the log received their bytes, and where the counts were those of the lines before, they are now those of
-- the lines before and these
pub record Logs (counted : Counted) (log : LogReceived) (lines : List Line) : Type 0 where
  pub counts : (before : List Line) → counted.0 ≡ counts_of before → counted.1 ≡ counts_of (before ++ lines)
  pub received : Appends log.0 log.1 (bytes_of_lines lines)
