use Rattle.btx_c.proofs.handed.CallerFiles.new.Given as goal

abbrev pub ghost-any : goal.ghost-any
ghost-any g a = g.others
