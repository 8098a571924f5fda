use Rattle.btx_c.proofs.read_job.btx_read_job.Given as goal

abbrev pub ghost-job_rows : goal.ghost-job_rows
ghost-job_rows g a = g.others
