use Rattle.btx_c.proofs.exports.btx_run_places.Given as goal

abbrev pub ghost-run_handed : goal.ghost-run_handed
ghost-run_handed g a = g.others
