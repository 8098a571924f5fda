-- What is done for a job: it is run, and its log is handed on.
use Rattle.std.specs.Prelude.{◌≡◌, ◌≤◌, ℕ, true, List, [], ◌∷◌, Option, Some, Result, Ok, Err, IfOk, IfSome, OnOk, OnErr}
use Rattle.std.specs.Io.KnownBytes.{Appends}
use Rattle.std.specs.Option.{option_map}
use Rattle.btx_aux.specs.language.Files.{Files}
use Rattle.btx_machine.specs.language.KeepingStep.{Received, AtFault}
use Rattle.btx_machine.specs.language.Product.{log_of}
use Rattle.btx_machine.specs.declared.report.Report.{Report}
use Rattle.btx_text.specs.declared.failures.Failures.{Failures}
use Rattle.btx_text.specs.language.Counts.{Change}
use Rattle.btx_text.specs.refinement.Counts.{no_failures}
use Rattle.btx_run.specs.language.Answered.{CompletesAsAnswered, FailsAsAnswered, Given}
use Rattle.btx_run.specs.language.RunFaults.{CountsOfRun}
use Rattle.btx_core.specs.refinement.ComputedProduct.{product, product_with}
use Rattle.btx_run.specs.declared.run_fault.RunFault.{RunFault}
use Rattle.btx_run.specs.declared.run_fault.RunFault.TheVariants.{Memory}
use Rattle.btx_command.specs.Acts.{ClosedList, WereDone, Done, EmptiedLog, OpenedList, Printed, StoredLog}
use Rattle.btx_command.specs.FolderFiles.{folder_files}
use Rattle.btx_command.specs.ListFiles.{FileState, FinishesList, Held, failures_by, keeps_old, received_by, unwritten}
use Rattle.btx_command.specs.Paths.{list_path, log_path}
use Rattle.btx_command.specs.Printing.{printed_log}
use Rattle.btx_command.specs.Status.{first_fault}
use Rattle.btx_command.specs.declared.given.Settings.{Settings}
use Rattle.btx_command.specs.declared.list_file.ListFile.{ListFile}

-- The job that was asked for is run, with all that was asked of it, over a finder of this content, if that is known: its report, list and
-- log are the product's, and after a fault the two outputs are prefixes of them. Whatever the finder is, also one over the files of a disk, it was asked for
-- no name twice, and the same holds of the product of all files that agree with each answer that it gave; and the run keeps to its budget, with at most 4,096
-- bodies open at once. `given` are the answers that the finder had given before the run, and those that it has given after it.
pub record RunsJob (content : Option Files) (given : Given) (settings : Settings) (before after : Received) (answer : Result Report RunFault) : Type 0 where
  pub report : IfOk answer (λ report. IfSome content (λ files. report ≡ (product files settings.job.now settings.options).report))
  pub list : OnOk answer (IfSome content (λ files. Appends before.0 after.0 (product files settings.job.now settings.options).bbl))
  pub log : OnOk answer (IfSome content (λ files. Appends before.1 after.1 (log_of (product files settings.job.now settings.options))))
  pub fault : OnErr answer (IfSome content (λ files.
      AtFault before after (product_with files settings.job.now settings.options) settings.options.budget))
  pub answered : IfOk answer (CompletesAsAnswered settings.job.now settings.options given before after)
  pub begun : OnErr answer (FailsAsAnswered settings.job.now settings.options given before after)
  pub within : IfOk answer (λ report. report.steps ≤ settings.options.budget)
  pub deep : IfOk answer (λ report. report.deepest ≤ 4096)

-- There are files such that a report is that of their product, for the job that was asked for and with all that was asked of it.
pub record IsReportOfSome (settings : Settings) (report : Report) : Type 0 where
  pub files : Files
  pub is : report ≡ (product files settings.job.now settings.options).report

-- of two answers the first fault counts
abbrev pub both_done : Result (Unit {0}) RunFault → Result (Unit {0}) RunFault → Result (Unit {0}) RunFault
both_done (Ok done) second = second
both_done (Err fault) second = Err fault

-- A log is handed on, with the failures of the writes that kept it in memory: all of it to the file of this path and then, whatever came of that, what is
-- printed of it to standard output; nothing else is done. The first fault is answered.
pub record HandsLog {W : Type 0} (settings : Settings) (path log : List ℕ) (kept : Failures) (before after : Done W)
    (answer : Result (Unit {0}) RunFault) : Type 0 where
  pub stored : Result (Unit {0}) RunFault
  pub printed : Result (Unit {0}) RunFault
  pub does : WereDone before after (StoredLog path log kept stored ∷ Printed (printed_log settings log) printed ∷ [])
  pub first : answer ≡ both_done stored printed

-- A job's list is written, over this change of its file: the job is run, and then the list's file is ended, also after a fault. The first
-- fault is answered; that of the run is the device's exactly where, by the failures of the finder, the list's file and the log, one call of one of the three
-- failed. Where there is no top file, the list's file isn't touched.
pub record ListsJob {W : Type 0} (content : Option Files) (given : Given) (state : W → FileState) (settings : Settings) (found : Change)
    (before after : ListFile W)
    (log : Held × Held) (logged : Change) (answer : Result Report RunFault) : Type 0 where
  pub ran : Result Report RunFault
  pub written : ListFile W
  pub finished : Result (Unit {0}) RunFault
  pub runs : RunsJob content given settings (received_by state before, log.0) (received_by state written, log.1) ran
  pub counts : CountsOfRun ran found (failures_by state before, failures_by state written) logged
  pub finishes : FinishesList state ran written after finished
  pub untouched : keeps_old ran ≡ true → after ≡ before
  pub first : answer ≡ first_fault ran finished

-- A job is done with its list's file, which was opened: its list is written, over a finder of this content and these failures, and the file is closed; then
-- the log that was kept is handed on to the file of this path, also after a fault. Nothing else is done. The first fault is answered. The failures that the
-- run's fault is told by are those that the acts show: of the list's file as it was opened and as it is closed, and of the log as it is stored.
pub record DoesWith {W : Type 0} (content : Option Files) (given : Given) (state : W → FileState) (settings : Settings) (found : Change) (path : List ℕ)
    (file : W)
    (before after : Done W) (answer : Result Report RunFault) : Type 0 where
  pub listed : Result Report RunFault
  pub list : ListFile W
  pub log : List ℕ
  pub kept : Failures
  pub lists : ListsJob content given state settings found (unwritten file) list (Some [], Some log) (no_failures, kept) listed
  pub stored : Result (Unit {0}) RunFault
  pub printed : Result (Unit {0}) RunFault
  pub does : WereDone before after (ClosedList list.file ∷ StoredLog path log kept stored ∷ Printed (printed_log settings log) printed ∷ [])
  pub first : answer ≡ first_fault listed (both_done stored printed)

-- A job is done, over a system of these files and lists' files that show this state. The file of its list is opened at the path of its list, an old log is
-- emptied at the path of its log, and with that file and that path the job is done over the files of its folder. The answer may be want of
-- memory before anything is done; and if the list's file can't be opened, nothing else is done. `found` are the failures of the system before and after: it
-- isn't called where the job isn't run.
pub data DoesJob {W : Type 0} (files : Option Files) (given : Given) (state : W → FileState) (settings : Settings) (found : Change) (before after : Done W)
    (answer : Result Report RunFault) : Type 0 where
  HasNoMemory : after ≡ before → given.1 ≡ given.0 → found.1 ≡ found.0 → answer ≡ Err Memory → DoesJob files given state settings found before after answer
  HasNoList : (fault : RunFault) → WereDone before after (OpenedList (list_path settings) (Err fault) ∷ []) → given.1 ≡ given.0 → found.1 ≡ found.0
      → answer ≡ Err fault → DoesJob files given state settings found before after answer
  HasList : (file : W) (ready : Done W) → WereDone before ready (OpenedList (list_path settings) (Ok file) ∷ EmptiedLog (log_path settings) ∷ [])
      → DoesWith (option_map (folder_files settings.directory.now) files) given state settings found (log_path settings) file ready after answer
      → DoesJob files given state settings found before after answer
