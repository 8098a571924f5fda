-- Counts of a log, up to the greatest number, and those of a log that is being written.
use Rattle.btx_machine.specs.refinement.Outputs.{Journal}
use Rattle.btx_machine.specs.declared.report.LogCounts.{LogCounts}
use Rattle.btx_machine.specs.laws.Reports.{log_counts}
use Rattle.std.specs.Prelude.{ℕ, ◌-◌, ◌^◌, min}

-- a number, or the greatest of 64 bits
abbrev pub at_most_greatest : ℕ → ℕ
at_most_greatest n = min n (2 ^ 64 - 1)

-- how many of its lines so far are warnings, and how many errors
abbrev pub counts_at : Journal → LogCounts
counts_at journal = log_counts journal.warnings journal.errors
