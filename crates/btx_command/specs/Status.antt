-- How the program ends: which end each answer has, and which exit status each end has. No other definition of the program gives a status.
use Rattle.std.specs.Prelude.{◌≡◌, ◌⊎◌, ℕ, ⊤, List, [], Result, Ok, Err, string_bytes}
use Rattle.clap.specs.declared.error.kind.ErrorKind.{ErrorKind}
use Rattle.clap.specs.declared.error.kind.ErrorKind.TheVariants.{DisplayHelp, DisplayVersion, OutOfMemory}
use Rattle.btx_machine.specs.declared.report.Report.{Report}
use Rattle.btx_run.specs.declared.run_fault.RunFault.{RunFault}
use Rattle.btx_run.specs.declared.run_fault.RunFault.TheVariants.{Memory, Device}
use Rattle.btx_command.specs.declared.given.Refusal.{Refusal}
use Rattle.btx_command.specs.declared.given.Refusal.TheVariants as refusal
use Rattle.btx_command.specs.declared.outcome.Exit.{Exit}
use Rattle.btx_command.specs.declared.outcome.Exit.TheVariants.{Shown, Refused, Ran, Failed}

-- ---- the end of each answer

-- the end for what a job answered
abbrev pub exit_of : Result Report RunFault → Exit
exit_of (Ok report) = Ran report
exit_of (Err fault) = Failed fault

-- what a run answered, unless only the writing of its log failed: of two faults the first counts
abbrev pub first_fault : Result Report RunFault → Result (Unit {0}) RunFault → Result Report RunFault
first_fault (Err fault) written = Err fault
first_fault (Ok report) (Err fault) = Err fault
first_fault (Ok report) (Ok done) = Ok report

-- the end where a text was asked for: it was printed, or couldn't be
abbrev pub exit_shown : Result (Unit {0}) RunFault → Exit
exit_shown (Ok done) = Shown
exit_shown (Err fault) = Failed fault

-- the end where memory was refused
abbrev pub refused_memory : Exit
refused_memory = Failed Memory

-- the end of a refusal whose text, if it has one, could be printed
abbrev pub refusal_exit : Refusal → Exit
refusal_exit (refusal.Shown _) = Shown
refusal_exit (refusal.Mistake _) = Refused
refusal_exit refusal.Memory = refused_memory

-- the text of a refusal: what was asked for, or why the words are refused; none where memory was refused
abbrev pub refusal_text : Refusal → List ℕ
refusal_text (refusal.Shown text) = string_bytes text
refusal_text (refusal.Mistake text) = string_bytes text
refusal_text refusal.Memory = []

-- that of a fault of the words: help and the version are shown, all mistakes are refused, and memory may be refused
abbrev pub fault_exit : ErrorKind → Exit
fault_exit DisplayHelp = Shown
fault_exit DisplayVersion = Shown
fault_exit OutOfMemory = refused_memory
fault_exit _ = Refused

-- a refusal comes to its own end, unless a text that was asked for can't be printed; then it comes to that of a fault
abbrev pub reported_by : Exit → Exit → Type 0
reported_by own end = (end ≡ own) ⊎ ((own ≡ Shown) × (fault : RunFault) × (end ≡ Failed fault))

-- ---- the status of each end

-- the one table of exit statuses. A job that ran has the status of its report; 5 where memory was refused, 6 where a file or an output failed
abbrev pub status_at : Exit → ℕ
status_at Shown = 0
status_at Refused = 1
status_at (Ran report) = report.status
status_at (Failed Memory) = 5
status_at (Failed Device) = 6

-- the ends at which nothing went wrong: a text that was asked for was printed, or a job ran and its report has the status 0
abbrev pub IsWell : Exit → Type 0
IsWell Shown = ⊤
IsWell (Ran report) = report.status ≡ 0
IsWell _ = ⊥
