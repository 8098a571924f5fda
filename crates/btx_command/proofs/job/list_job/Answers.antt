use Rattle.btx_command.proofs.JobLemmas.{ended_untouched}
use Rattle.btx_command.proofs.job.list_job.Goals as goal

pub returns : goal.returns
returns g c = record {
  ran = c.run_over-ran.result;
  written = c.run_over-ran.new.bbl;
  finished = c.finish-finished.result;
  runs = c.run_over-ran.ensures.runs;
  counts = c.run_over-ran.ensures.counts;
  finishes = c.finish-finished.ensures;
  untouched =
      ended_untouched g.W.EmptiedFile.state c.run_over-ran.result c.args.list.now c.run_over-ran.new.bbl c.finish-finished.new.self c.finish-finished.result
      c.run_over-ran.ensures.untouched c.finish-finished.ensures;
  first = c.first_fault.ensures;
}
