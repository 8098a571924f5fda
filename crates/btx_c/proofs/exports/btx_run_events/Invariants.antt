use Rattle.btx_c.proofs.exports.btx_run_events.Given as goal

abbrev pub ghost-btx_run_places : goal.ghost-btx_run_places
ghost-btx_run_places g a = g.others
