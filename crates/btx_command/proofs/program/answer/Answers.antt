use Rattle.std.proofs.Common.{Ok}
use Rattle.btx_command.proofs.program.answer.Goals as goal

-- the job is done, and then its fault is reported
pub returns-in-Ok : goal.returns-in-Ok
returns-in-Ok g c = record {
  read = Ok c.in-Ok.settings;
  settings = c.in-Ok.ensures.read;
  refused = c.in-Ok.ensures.refused;
  answered = record {
    answer = c.run_job-system.result.1;
    done = g.O.Outputs.acts c.run_job-system.new.outputs;
    does = c.run_job-system.ensures.does;
    reports = c.report_answer.ensures.acts;
    ends = c.report_answer.ensures.exit;
  };
}
