use Rattle.btx_c.proofs.run.run_into.Goals as goal

pub returns-in-Ok-run_noted-clause-ok : goal.returns-in-Ok-run_noted-clause-ok
returns-in-Ok-run_noted-clause-ok g c = record {
  report_is = rw (c.new-finder.ensures.files, c.new-finder.ensures.others, c.in-Ok.ensures) at c.in-Ok-run_noted.ensures.report;
  bbl_whole = rw (c.new-finder.ensures.files, c.new-finder.ensures.others, c.in-Ok.ensures) at c.in-Ok-run_noted.ensures.bbl;
  log_whole = rw (c.new-finder.ensures.files, c.new-finder.ensures.others, c.in-Ok.ensures) at c.in-Ok-run_noted.ensures.log;
}
