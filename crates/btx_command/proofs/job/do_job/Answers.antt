use Rattle.std.proofs.Common.{◌∙◌, ap, refl}
use Rattle.btx_command.specs.ListFiles.{unwritten}
use Rattle.btx_command.specs.Status.{first_fault}
use Rattle.btx_command.proofs.JobLemmas.{closes_and_hands, lists_from}
use Rattle.btx_command.proofs.job.do_job.Goals as goal

pub returns : goal.returns
returns g c = record {
  listed = c.list_job-listed.result;
  list = c.list_job-listed.new.list;
  log = c.list_job-listed.new.log.writer.items;
  kept = c.list_job-listed.new.log.failures;
  lists =
      lists_from _ _ _ _ _ c.new-list.result (unwritten c.args.file) _ _ _ _ _ _ c.new-list.ensures (rw (c.new-log.ensures.writer, c.new.ensures.items) refl)
      c.new-log.ensures.failures c.list_job-listed.ensures;
  stored = c.write_log-written.ensures.stored;
  printed = c.write_log-written.ensures.printed;
  does = closes_and_hands _ _ _ _ _ _ _ _ _ _ _ c.write_log-written.ensures c.into_file.ensures c.as_slice.ensures.value c.close_list.ensures;
  first = c.first_fault.ensures ∙ ap (first_fault c.list_job-listed.result) c.write_log-written.ensures.first;
}
