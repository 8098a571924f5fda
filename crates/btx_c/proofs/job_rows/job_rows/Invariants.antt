use Rattle.btx_c.proofs.job_rows.job_rows.Given as goal

abbrev pub ghost-new : goal.ghost-new
ghost-new g a = g.others
