-- The file of the list of references, over the run and at its end.
use Rattle.std.specs.Prelude.{◌≡◌, ℕ, Bool, true, false, List, [], Option, Result, Ok, Err, OnErr, OnOk, MatchBool, if◌then◌else◌, is_err}
use Rattle.std.specs.Io.KnownBytes.{Keeps}
use Rattle.std.specs.Option.{option_map}
use Rattle.btx_text.specs.declared.failures.Failures.{Failures}
use Rattle.btx_text.specs.refinement.Counts.{RisesIf}
use Rattle.btx_machine.specs.declared.report.End.{End}
use Rattle.btx_machine.specs.declared.report.End.TheVariants.{NoTopFile}
use Rattle.btx_machine.specs.declared.report.Report.{Report}
use Rattle.btx_run.specs.declared.run_fault.RunFault.{RunFault}
use Rattle.btx_command.specs.declared.list_file.ListFile.{ListFile}

-- what a file holds, as far as it is known
abbrev pub Held : Type 0
Held = Option (List ℕ)

-- what a list's file shows: what it holds, as far as it is known, and how often a write to it or an emptying of it failed, and whether the last one did
pub record FileState : Type 0 where
  pub held : Held
  pub failures : Failures

-- what it holds once it is emptied
abbrev pub emptied : Held → Held
emptied held = option_map (λ bytes. []) held

-- a list's file that was opened, and that this run hasn't written to
abbrev pub unwritten : {W : Type 0} → W → ListFile W
unwritten file = record { file = file; is_emptied = false }

-- what a list's file has received in this run: nothing as long as it holds what an earlier run left, then all that it holds
abbrev pub received_by : {W : Type 0} → (W → FileState) → ListFile W → Held
received_by state list = if list.is_emptied then (state list.file).held else emptied (state list.file).held

-- the failures of a list's file
abbrev pub failures_by : {W : Type 0} → (W → FileState) → ListFile W → Failures
failures_by state list = (state list.file).failures

-- there is no top file
abbrev pub is_without_top_file : End → Bool
is_without_top_file NoTopFile = true
is_without_top_file _ = false

-- after this answer an old list stays: there is no top file, and so no new list
abbrev pub keeps_old : Result Report RunFault → Bool
keeps_old (Ok report) = is_without_top_file report.end
keeps_old (Err fault) = false

-- What an earlier run left is thrown away: the file holds what it received in this run and nothing else. If that fails, it holds what it held. It fails exactly
-- where the file's count of failures rises, by one, and that call of the file is then the last.
pub record IsEmptied {W : Type 0} (state : W → FileState) (old new : ListFile W) (result : Result (Unit {0}) RunFault) : Type 0 where
  pub emptied : OnOk result (Keeps (received_by state old) (state new.file).held)
  pub kept : OnErr result (Keeps (state old.file).held (state new.file).held)
  pub counts : RisesIf (is_err result) (failures_by state old, failures_by state new)

-- At the end of a run its list's file stays as it is where there is no top file; else it holds what it received in this run and nothing else,
-- or it couldn't be emptied, which is reported, and holds what it held.
abbrev pub FinishesList : {W : Type 0} → (W → FileState) → Result Report RunFault → ListFile W → ListFile W → Result (Unit {0}) RunFault → Type 0
FinishesList state answer old new result =
    MatchBool (keeps_old answer) ((new ≡ old) × (result ≡ Ok tt)) (IsEmptied state old new result)
