-- How a run ends, and what it answers.
use Rattle.std.specs.Prelude.{ℕ, ◌==◌, ◌++◌, List, if◌then◌else◌, codes, decimal}
use Rattle.btx_machine.specs.declared.ending.Ending.{Ending}
use Rattle.btx_machine.specs.declared.ending.Ending.TheVariants as ending
use Rattle.btx_text.specs.declared.limits.Limit.TheVariants.{Literals, Calls, Loops, String, File, Files}
use Rattle.btx_machine.specs.declared.report.End.{End}
use Rattle.btx_machine.specs.declared.report.End.TheVariants as ended
use Rattle.btx_machine.specs.declared.report.Report.{Report}
use Rattle.btx_machine.specs.declared.report.LogCounts.{LogCounts}

-- the end of a run whose style was executed
abbrev pub end_as : Ending → End
end_as ending.Finished = ended.Finished
end_as ending.Stopped = ended.Stopped
end_as (ending.Limit kind) = ended.Limit kind

-- the word by which the log's last line says how a run ended
unfoldable pub end_word : End → List ℕ
end_word ended.Finished = codes "finished"
end_word ended.Stopped = codes "stopped"
end_word (ended.Limit Literals) = codes "limit literals"
end_word (ended.Limit Calls) = codes "limit calls"
end_word (ended.Limit Loops) = codes "limit loops"
end_word (ended.Limit String) = codes "limit string"
end_word (ended.Limit File) = codes "limit file"
end_word (ended.Limit Files) = codes "limit files"
end_word ended.NoTopFile = codes "no top file"

-- the exit status of a run, by its end and its number of errors: 0 if it finished without errors and 2 with some, 4 if it was stopped, 3 else
-- (3 and 4 are this project's own)
abbrev pub status_of : End → ℕ → ℕ
status_of ended.Finished errors = if errors == 0 then 0 else 2
status_of ended.Stopped errors = 4
status_of (ended.Limit kind) errors = 3
status_of ended.NoTopFile errors = 3

-- the report of a run: its status, its end, its steps, the most bodies that were open at once, and the counts of its log
abbrev pub report_of : End → ℕ → ℕ → LogCounts → Report
report_of end steps deepest counts = record {
  status = status_of end counts.errors;
  end = end;
  steps = steps;
  deepest = deepest;
  warnings = counts.warnings;
  errors = counts.errors;
}

-- the last line of the log, without its line feed: how the run ended, its counts and its steps. A run that takes all 100 steps of its budget and
-- wants another one ends `Ended: stopped, warnings 0, errors 0, steps 100`. This line is this project's own.
unfoldable pub last_line : Report → List ℕ
last_line report =
    codes "Ended: " ++ end_word report.end ++ codes ", warnings " ++ decimal report.warnings
    ++ codes ", errors " ++ decimal report.errors ++ codes ", steps " ++ decimal report.steps
