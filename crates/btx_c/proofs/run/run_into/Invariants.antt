use Rattle.btx_c.proofs.run.run_into.Given as goal

abbrev pub ghost-new : goal.ghost-new
ghost-new g a = g.others
