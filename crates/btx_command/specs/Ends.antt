-- The end that a command line comes to, and what is done before it.
use Rattle.std.specs.Prelude.{◌≡◌, ℕ, List, [], ◌∷◌, Option, Result, Ok, Err, IfOk, String, codes, map}
use Rattle.std.specs.Prelude.{string_bytes}
use Rattle.std.specs.IoError.{error_kind}
use Rattle.std.specs.Vec.Iter.{into_iter_items}
use Rattle.std.specs.declared.alloc.Global.{Global}
use Rattle.std.specs.declared.io.Error.{Error}
use Rattle.std.specs.declared.io.ErrorKind.{ErrorKind}
use Rattle.std.specs.declared.io.ErrorKind.TheVariants.{OutOfMemory}
use Rattle.std.specs.declared.vec.IntoIter.{IntoIter}
use Rattle.std.specs.declared.vec.Vec.{Vec}
use Rattle.btx_aux.specs.language.Files.{Files}
use Rattle.btx_text.specs.language.Counts.{Change}
use Rattle.btx_machine.specs.declared.report.Report.{Report}
use Rattle.btx_run.specs.declared.run_fault.RunFault.{RunFault}
use Rattle.btx_run.specs.declared.run_fault.RunFault.TheVariants as run_fault
use Rattle.btx_command.specs.Acts.{WereDone, Done, Printed, ReportedFault, ReportedText, reporting}
use Rattle.btx_command.specs.CommandLine.{IsSettingsOf, Refuses}
use Rattle.btx_command.specs.Jobs.{DoesJob}
use Rattle.btx_run.specs.language.Answered.{Given}
use Rattle.btx_command.specs.ListFiles.{FileState}
use Rattle.btx_command.specs.Spelling.{hint_of}
use Rattle.btx_command.specs.Status.{exit_of, exit_shown, refused_memory, status_at}
use Rattle.btx_command.specs.declared.given.Refusal.{Refusal}
use Rattle.btx_command.specs.declared.given.Refusal.TheVariants as refusal
use Rattle.btx_command.specs.declared.given.Settings.{Settings}
use Rattle.btx_command.specs.declared.outcome.Exit.{Exit}
use Rattle.btx_command.specs.declared.outcome.Exit.TheVariants as exit

-- words that are not run come to this end: a text that was asked for is printed, and if that fails, the fault is reported; of a mistake its
-- text is reported, with this hint; of refused memory that fault
abbrev pub IsReported : {W : Type 0} → List ℕ → Refusal → Done W → Done W → Exit → Type 0
IsReported hint (refusal.Shown text) before after end =
    (printed : Result (Unit {0}) RunFault) × WereDone before after (Printed (string_bytes text) printed ∷ reporting printed) × (end ≡ exit_shown printed)
IsReported hint (refusal.Mistake text) before after end = WereDone before after (ReportedText (string_bytes text) hint ∷ []) × (end ≡ exit.Refused)
IsReported hint refusal.Memory before after end = WereDone before after (ReportedFault run_fault.Memory ∷ []) × (end ≡ refused_memory)

-- Words that are run come to this end, over a system of these files and lists' files that show this state: their job is done, and then its fault is
-- reported, if its answer is one. `given` are the answers on files that were given before, and those that are given after; `found` are the failures of the
-- system before and after.
pub record RunEnds {W : Type 0} (files : Option Files) (given : Given) (found : Change) (state : W → FileState) (settings : Settings) (before after : Done W)
    (end : Exit) : Type 0 where
  pub answer : Result Report RunFault
  pub done : Done W
  pub does : DoesJob files given state settings found before done answer
  pub reports : WereDone done after (reporting answer)
  pub ends : end ≡ exit_of answer

-- the settings that were read are run; a refusal, or a text that was asked for, is printed, no file is asked for, and the system isn't called
abbrev pub IsAnswered : {W : Type 0} → Option Files → Given → Change → (W → FileState) → List ℕ → Result Settings Refusal → Done W → Done W → Exit → Type 0
IsAnswered files given found state hint (Ok settings) before after end = RunEnds files given found state settings before after end
IsAnswered files given found state hint (Err refusal) before after end = (given.1 ≡ given.0) × (found.1 ≡ found.0) × IsReported hint refusal before after end

-- the words of a command line, the program's name first, come to this end: the job of their settings is done, once, and nothing else is, or they
-- are refused as they are read; a mistake is reported with this hint
pub record ComesTo {W : Type 0} (files : Option Files) (given : Given) (found : Change) (state : W → FileState) (words : List (List ℕ)) (hint : List ℕ)
    (before after : Done W) (end : Exit) : Type 0 where
  pub read : Result Settings Refusal
  pub settings : IfOk read (IsSettingsOf words)
  pub refused : Refuses words read
  pub answered : IsAnswered files given found state hint read before after end

-- what the system answers when it is asked for the words of the command line: its own iterator over them, or an error
abbrev pub Args : Type 0
Args = Result (IntoIter (String Global) Global) Error

-- what the program reads of that answer
abbrev pub Words : Type 0
Words = Result (Vec (String Global) Global) Error

-- all words of the iterator are read, in order, or memory is refused; an error of the system stays what it is
abbrev pub AreWordsOf : Args → Words → Type 0
AreWordsOf (Ok args) (Ok words) = words.items ≡ into_iter_items args
AreWordsOf (Ok args) (Err error) = error_kind error ≡ OutOfMemory
AreWordsOf (Err error) words = words ≡ Err error

-- words that can't be read, by the kind of the error, come to this end: where memory was refused, that fault is reported; else the report
-- is that they are no text
abbrev pub IsUnread : {W : Type 0} → ErrorKind → Done W → Done W → Exit → Type 0
IsUnread OutOfMemory before after end = WereDone before after (ReportedFault run_fault.Memory ∷ []) × (end ≡ refused_memory)
IsUnread _ before after end =
    WereDone before after (ReportedText (codes "error: invalid UTF-8 was detected in one or more arguments\n") [] ∷ []) × (end ≡ exit.Refused)

-- words that were read come to the end of their command line; of others the reason is reported, no file is asked for, the system isn't called, and nothing
-- else is done
abbrev pub EndsFor : {W : Type 0} → Option Files → Given → Change → (W → FileState) → Words → Done W → Done W → Exit → Type 0
EndsFor files given found state (Ok words) before after end =
    ComesTo files given found state (map (λ word. string_bytes word) words.items) (hint_of words.items) before after end
EndsFor files given found state (Err error) before after end = (given.1 ≡ given.0) × (found.1 ≡ found.0) × IsUnread (error_kind error) before after end

-- The whole program, over a system of these files, lists' files that show this state, and this answer on the words of the command line: the words are
-- read, they come to their end, and the exit status is that end's. `given` are the answers on files that were given before the program, and those that
-- are given after it: what is said of a run's report holds for all files that agree with those given in it. `found` are the failures of the system before the
-- program and after it: by them, and by those that the acts show of the list's file and of the log, the fault of the run is told.
pub record ExitsWith {W : Type 0} (files : Option Files) (given : Given) (found : Change) (state : W → FileState) (args : Args) (before after : Done W)
    (status : ℕ) : Type 0 where
  pub words : Words
  pub end : Exit
  pub reads : AreWordsOf args words
  pub ends : EndsFor files given found state words before after end
  pub exits : status ≡ status_at end
