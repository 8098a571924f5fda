-- What is done for a job, and the report that it answers.
use Rattle.std.proofs.Common.{◌≡◌, ℕ, List, [], ◌∷◌, Bool, true, Option, Some, Result, Ok, Err, IfOk, MatchBool, inl, inr, subst, sym, ◌∙◌}
use Rattle.std.proofs.lemmas.Bool.{and_parts}
use Rattle.btx_text.specs.declared.failures.Failures.{Failures}
use Rattle.btx_text.specs.language.Counts.{Change, OneOfThreeRises}
use Rattle.btx_text.specs.refinement.Counts.{no_failures}
use Rattle.btx_aux.specs.language.Files.{Files}
use Rattle.btx_aux.specs.language.Answers.{FinderAnswer}
use Rattle.btx_aux.proofs.AnswerLemmas.{files_agree, files_answered}
use Rattle.btx_machine.specs.declared.report.Report.{Report}
use Rattle.btx_run.specs.language.Answered.{CompletesAsAnswered, Given}
use Rattle.btx_run.specs.language.RunFaults.{CountsOfRun}
use Rattle.btx_run.specs.declared.run_fault.RunFault.{RunFault}
use Rattle.btx_run.specs.declared.run_fault.RunFault.TheVariants.{Device, Memory}
use Rattle.btx_command.specs.Acts.{ClosedList, WereDone, Done, EmptiedLog, OpenedList, Printed, StoredLog}
use Rattle.btx_command.specs.FileErrors.{failures_of_fetches}
use Rattle.btx_command.specs.Jobs.{DoesWith, HandsLog, IsReportOfSome, ListsJob, both_done}
use Rattle.btx_command.specs.ListFiles.{FileState, FinishesList, Held, IsEmptied, keeps_old}
use Rattle.btx_command.specs.Paths.{list_path, log_path}
use Rattle.btx_command.specs.Printing.{printed_log}
use Rattle.btx_command.specs.Status.{first_fault}
use Rattle.btx_command.specs.declared.given.Settings.{Settings}
use Rattle.btx_command.specs.declared.list_file.ListFile.{ListFile}
use Rattle.btx_command.proofs.GrowthLemmas.{one_after_another}
use Rattle.btx_machine.specs.language.KeepingStep.{Received}

-- ---- an old list that is kept

pub ended_untouched : {W : Type 0} (state : W → FileState) (ran : Result Report RunFault) (before written after : ListFile W)
    (finished : Result (Unit {0}) RunFault)
    → (keeps_old ran ≡ true → written ≡ before) → FinishesList state ran written after finished → keeps_old ran ≡ true → after ≡ before
ended_untouched state ran before written after finished untouched finishes kept = stays.0 ∙ untouched kept
  where
    stays : (after ≡ written) × (finished ≡ Ok tt)
    stays =
        subst (λ (keeps : Bool). MatchBool keeps ((after ≡ written) × (finished ≡ Ok tt)) (IsEmptied state written after finished)) kept finishes

-- ---- what is done, by the values that stand for the job's own

pub lists_from : {W : Type 0} (content : Option Files) (given : Given) (state : W → FileState) (settings : Settings) (found : Change)
    (here there after : ListFile W) (before log : Held) (first kept : Failures) (answer : Result Report RunFault)
    → here ≡ there → before ≡ Some [] → first ≡ no_failures → ListsJob content given state settings found here after (before, log) (first, kept) answer
    → ListsJob content given state settings found there after (Some [], log) (no_failures, kept) answer
lists_from content given state settings found here there after before log first kept answer is none begins h =
    subst (λ (list : ListFile _). ListsJob content given state settings found list after (Some [], log) (no_failures, kept) answer) is
    (subst (λ (before : Held). ListsJob content given state settings found here after (before, log) (no_failures, kept) answer) none
    (subst (λ (first : Failures). ListsJob content given state settings found here after (before, log) (first, kept) answer) begins h))

-- the file is closed, and the log handed on
pub closes_and_hands : {W : Type 0} (settings : Settings) (path text log : List ℕ) (kept : Failures) (here file : W) (before mid after : Done W)
    (answer : Result (Unit {0}) RunFault)
    (h : HandsLog settings path text kept mid after answer) → here ≡ file → text ≡ log → WereDone before mid (ClosedList here ∷ [])
    → WereDone before after (ClosedList file ∷ StoredLog path log kept h.stored ∷ Printed (printed_log settings log) h.printed ∷ [])
closes_and_hands settings path text log kept here file before mid after answer h is_file is_log closes =
    subst (λ log. WereDone before after (ClosedList file ∷ StoredLog path log kept h.stored ∷ Printed (printed_log settings log) h.printed ∷ [])) is_log
    (subst (λ file. WereDone before after (ClosedList file ∷ StoredLog path text kept h.stored ∷ Printed (printed_log settings text) h.printed ∷ [])) is_file
    (one_after_another before mid after (ClosedList here ∷ []) (StoredLog path text kept h.stored ∷ Printed (printed_log settings text) h.printed ∷ []) closes
    h.does))

-- the list's file is opened, or that fails
pub opens : {W : Type 0} (settings : Settings) (path : List ℕ) (opened is : Result W RunFault) (before after : Done W)
    → path ≡ list_path settings → opened ≡ is → WereDone before after (OpenedList path opened ∷ [])
    → WereDone before after (OpenedList (list_path settings) is ∷ [])
opens settings path opened is before after is_path is_opened h =
    subst (λ opened. WereDone before after (OpenedList (list_path settings) opened ∷ [])) is_opened
    (subst (λ path. WereDone before after (OpenedList path opened ∷ [])) is_path h)

-- the list's file is opened, and the old log is emptied
pub opens_and_empties : {W : Type 0} (settings : Settings) (path : List ℕ) (file : W) (before mid after : Done W)
    → path ≡ log_path settings → WereDone before mid (OpenedList (list_path settings) (Ok file) ∷ []) → WereDone mid after (EmptiedLog path ∷ [])
    → WereDone before after (OpenedList (list_path settings) (Ok file) ∷ EmptiedLog (log_path settings) ∷ [])
opens_and_empties settings path file before mid after is_path opened empties =
    subst (λ path. WereDone before after (OpenedList (list_path settings) (Ok file) ∷ EmptiedLog path ∷ [])) is_path
    (one_after_another before mid after (OpenedList (list_path settings) (Ok file) ∷ []) (EmptiedLog path ∷ []) opened empties)

-- ---- the failures of the system

-- where by the failures of the finder over a system the last call of one of three failed, it did by those of the system
rises_by_system : (before after : Failures) (first last : Bool) (b c : Change)
    → OneOfThreeRises (failures_of_fetches before first, failures_of_fetches after last) b c → OneOfThreeRises (before, after) b c
rises_by_system before after first last b c (inl ((count, failed), kept, stored)) = inl ((count, (and_parts last after.last_failed failed).1), kept, stored)
rises_by_system before after first last b c (inr others) = inr others

-- a run's fault is told by the failures of the system as by those of the finder over it
counts_by_system : {T : Type 0} (ran : Result T RunFault) (before after : Failures) (first last : Bool) (b c : Change)
    → CountsOfRun ran (failures_of_fetches before first, failures_of_fetches after last) b c → CountsOfRun ran (before, after) b c
counts_by_system (Ok value) before after first last b c h = h
counts_by_system (Err Memory) before after first last b c h = h
counts_by_system (Err Device) before after first last b c h = rises_by_system before after first last b c h

by_system : {W : Type 0} (content : Option Files) (given : Given) (state : W → FileState) (settings : Settings) (first last : Failures)
    (at_first at_last : Bool) (path : List ℕ) (file : W) (before after : Done W) (answer : Result Report RunFault)
    → DoesWith content given state settings (failures_of_fetches first at_first, failures_of_fetches last at_last) path file before after answer
    → DoesWith content given state settings (first, last) path file before after answer
by_system content given state settings first last at_first at_last path file before after answer h = record {
  listed = h.listed;
  list = h.list;
  log = h.log;
  kept = h.kept;
  lists = record {
    ran = h.lists.ran;
    written = h.lists.written;
    finished = h.lists.finished;
    runs = h.lists.runs;
    counts = counts_by_system h.lists.ran first last at_first at_last _ _ h.lists.counts;
    finishes = h.lists.finishes;
    untouched = h.lists.untouched;
    first = h.lists.first;
  };
  stored = h.stored;
  printed = h.printed;
  does = h.does;
  first = h.first;
}

pub does_with : {W : Type 0} (here there : Option Files) (given given' : Given) (state : W → FileState) (settings : Settings)
    (first last first' last' : Failures)
    (at_first at_last : Bool) (path : List ℕ) (file : W) (before after : Done W) (answer : Result Report RunFault)
    → here ≡ there → given.0 ≡ given'.0 → given.1 ≡ given'.1 → first ≡ first' → last ≡ last' → path ≡ log_path settings
    → DoesWith here given state settings (failures_of_fetches first at_first, failures_of_fetches last at_last) path file before after answer
    → DoesWith there given' state settings (first', last') (log_path settings) file before after answer
does_with here there given given' state settings first last first' last' at_first at_last path file before after answer is old new is_first is_last is_path h =
    subst (λ (it : Failures). DoesWith there given' state settings (first', it) (log_path settings) file before after answer) is_last
    (subst (λ (it : Failures). DoesWith there given' state settings (it, last) (log_path settings) file before after answer) is_first
    (subst (λ (it : List FinderAnswer). DoesWith there (given'.0, it) state settings (first, last) (log_path settings) file before after answer) new
    (subst (λ (it : List FinderAnswer). DoesWith there (it, given.1) state settings (first, last) (log_path settings) file before after answer) old
    (subst (λ (content : Option Files). DoesWith content given state settings (first, last) (log_path settings) file before after answer) is
    (subst (λ path. DoesWith here given state settings (first, last) path file before after answer) is_path
    (by_system here given state settings first last at_first at_last path file before after answer h))))))

-- ---- the report

-- what holds of the report of a run holds of the one that is answered after what followed it
ok_before : (P : Report → Type 0) (ran : Result Report RunFault) (followed : Result (Unit {0}) RunFault) (answer : Result Report RunFault)
    → answer ≡ first_fault ran followed → IfOk ran P → IfOk answer P
ok_before P (Err fault) followed answer is h = subst (λ a. IfOk a P) (sym is) tt
ok_before P (Ok report) (Err fault) answer is h = subst (λ a. IfOk a P) (sym is) tt
ok_before P (Ok report) (Ok done) answer is h = subst (λ a. IfOk a P) (sym is) h

-- a report of a run over any finder is that of some files' product
pub of_some : (settings : Settings) (given : Given) (before after : Received) (ran : Result Report RunFault)
    → IfOk ran (CompletesAsAnswered settings.job.now settings.options given before after) → IfOk ran (IsReportOfSome settings)
of_some settings given before after (Err fault) h = tt
of_some settings given before after (Ok report) h =
    record { files = files_answered h.answers; is = (h.completes (files_answered h.answers) (files_agree h.answers h.once)).report_is }

-- what holds of the report of a run holds of the report of the job that was done with it
pub report_of_job : {W : Type 0} (content : Option Files) (given : Given) (state : W → FileState) (settings : Settings) (found : Change) (path : List ℕ)
    (file : W)
    (before after : Done W) (answer : Result Report RunFault) (P : Report → Type 0)
    (h : DoesWith content given state settings found path file before after answer) → IfOk h.lists.ran P → IfOk answer P
report_of_job content given state settings found path file before after answer P h holds =
    ok_before P h.listed (both_done h.stored h.printed) answer h.first (ok_before P h.lists.ran h.lists.finished h.listed h.lists.first holds)
