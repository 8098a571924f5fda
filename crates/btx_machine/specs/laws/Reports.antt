-- The counts of a log.
use Rattle.std.specs.Prelude.{ℕ}
use Rattle.btx_machine.specs.declared.report.LogCounts.{LogCounts}

-- the counts of a log that has this number of warnings and this number of errors
abbrev pub log_counts : ℕ → ℕ → LogCounts
log_counts warnings errors = record { warnings = warnings; errors = errors }
