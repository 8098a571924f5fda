use Rattle.btx_run.proofs.WorkedJobs.{holds}
use Rattle.btx_run.proofs.law.worked_jobs_come_to_this.Goals as goal

pub returns : goal.returns
returns c = holds
