use Rattle.std.proofs.Common.{◌∙◌, ap, refl, sym}
use Rattle.std.specs.Option.{option_map}
use Rattle.btx_command.specs.FolderFiles.{folder_files}
use Rattle.btx_command.specs.Jobs.{HasList, HasNoList, IsReportOfSome}
use Rattle.btx_command.proofs.JobLemmas.{does_with, of_some, opens, opens_and_empties, report_of_job}
use Rattle.btx_command.proofs.job.run_job.Goals as goal

-- the list's file can't be opened
pub returns-in-Err-open_list-clause-does : goal.returns-in-Err-open_list-clause-does
returns-in-Err-open_list-clause-does g c =
    HasNoList c.in-Err-open_list.fault
    (opens c.args.settings.now _ _ _ _ _ (c.as_str.ensures.value ∙ c.in-Ok.ensures.paths.0) c.in-Err-open_list.is c.open_list.ensures) refl refl refl

-- it is open
pub returns-clause-does : goal.returns-clause-does
returns-clause-does g c =
    let failures = g.S.System.failures in
    let finder = c.do_job-answer.new.finder in
    let parts = c.into_parts-system.ensures in
    HasList c.in-Ok-open_list.file (g.O.Outputs.acts c.empty_log.new.self)
    (opens_and_empties c.args.settings.now _ _ _ _ _ (c.as_str-2.ensures.value ∙ c.in-Ok.ensures.paths.1)
    (opens c.args.settings.now _ _ _ _ _ (c.as_str.ensures.value ∙ c.in-Ok.ensures.paths.0) c.in-Ok-open_list.is c.open_list.ensures) c.empty_log.ensures)
    (does_with (option_map (folder_files c.new-finder.result.directory.now) (g.S.System.content c.new-finder.result.system))
    (option_map (folder_files c.args.settings.now.directory.now) (g.S.System.content c.args.system)) _ _ _ _
    (failures c.new-finder.result.system) (failures finder.system) _ _ c.new-finder.result.last_failed finder.last_failed _ _ _ _ _
    (rw (c.new-finder.ensures.system, c.new-finder.ensures.directory) refl)
    (c.new-finder.ensures.history ∙ c.replace-given.ensures.value) (sym (ap (λ it. it.1) parts))
    (ap failures c.new-finder.ensures.system) (sym (ap (λ it. failures it.0) parts)) (c.as_str-3.ensures.value ∙ c.in-Ok.ensures.paths.1)
    c.do_job-answer.ensures)

pub returns-clause-product : goal.returns-clause-product
returns-clause-product g c =
    report_of_job _ _ _ _ _ _ _ _ _ _ (IsReportOfSome c.args.settings.now) c.do_job-answer.ensures
    (of_some c.args.settings.now _ _ _ _ c.do_job-answer.ensures.lists.runs.answered)
