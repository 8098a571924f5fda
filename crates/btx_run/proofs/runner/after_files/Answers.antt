use Rattle.std.proofs.Common.{refl, ap, ◌∙◌}
use Rattle.btx_machine.specs.declared.report.Report.{Report}
use Rattle.btx_machine.proofs.ComesLemmas.{err_map, ok_map}
use Rattle.btx_machine.proofs.CountingLemmas.{counts_reported}
use Rattle.btx_run.proofs.ProductLemmas.{completes_early, counts_of_end, fails_early, never_deeper, touched_with_top_file}
use Rattle.btx_machine.specs.refinement.Places.{most_steps}
use Rattle.btx_run.proofs.MetRuns.{ends_met, found_met}
use Rattle.btx_run.proofs.runner.after_files.Goals as goal
use Rattle.btx_run.specs.refinement.Product.{work_in}

pub returns-in-Ends-clause-ok : goal.returns-in-Ends-clause-ok
returns-in-Ends-clause-ok g c =
    rw c.in-Ends.is (completes_early (g.W.Sink.received c.args.bbl.now) (g.L.LogSink.received c.args.log.now) (g.L.LogSink.received c.log_end.new.log)
    c.report_of.result _
    c.report_of.ensures c.log_end.result c.log_end.ensures.report c.log_end.ensures.ok)

pub returns-in-Ends-clause-err : goal.returns-in-Ends-clause-err
returns-in-Ends-clause-err g c =
    rw c.in-Ends.is (err_map (fails_early (g.W.Sink.received c.args.bbl.now) (g.L.LogSink.received c.args.log.now) (g.L.LogSink.received c.log_end.new.log)
    c.report_of.result _ c.args.options.now.budget
    c.report_of.ensures) c.log_end.result c.log_end.ensures.err)

pub returns-in-Ends-clause-counts : goal.returns-in-Ends-clause-counts
returns-in-Ends-clause-counts g c = counts_of_end c.log_end.result _ _ c.log_end.ensures.counts

pub returns-in-Found-clause-deep : goal.returns-in-Found-clause-deep
returns-in-Found-clause-deep g c =
    never_deeper _ _ (work_in c.args.job.now c.in-Found.found c.args.options.now) c.args.counts c.args.options.now.line c.args.options.now.budget
    c.execute_found.result c.execute_found.ensures.ok

pub returns-in-Found-clause-err : goal.returns-in-Found-clause-err
returns-in-Found-clause-err g c = rw c.in-Found.is c.execute_found.ensures.err

pub returns-in-Ends-clause-untouched : goal.returns-in-Ends-clause-untouched
returns-in-Ends-clause-untouched g c = ok_map (λ report same is. refl) c.log_end.result c.log_end.ensures.report

pub returns-in-Found-clause-untouched : goal.returns-in-Found-clause-untouched
returns-in-Found-clause-untouched g c =
    touched_with_top_file _ _ _ _ (work_in c.args.job.now c.in-Found.found c.args.options.now) c.args.counts c.args.options.now.line c.args.options.now.budget
    c.execute_found.result c.execute_found.ensures.ok

pub returns-in-Ends-clause-counted : goal.returns-in-Ends-clause-counted
returns-in-Ends-clause-counted g c =
    ok_map (λ report same. counts_reported _ c.args.counts c.args.counts.warnings c.args.counts.errors report.warnings report.errors
    (ap (λ (report : Report). report.warnings) (same ∙ c.report_of.ensures)) (ap (λ (report : Report). report.errors) (same ∙ c.report_of.ensures))
    (c.log_end.ensures.counted c.args.counts)) c.log_end.result c.log_end.ensures.report

pub returns-in-Ends-clause-met : goal.returns-in-Ends-clause-met
returns-in-Ends-clause-met g c =
    rw c.in-Ends.is (ends_met c.args.job.now c.in-Ends.end c.args.options.now c.args.counts (most_steps c.log_end.result c.args.options.now.budget)
    c.report_of.result _ _ c.report_of.ensures c.log_end.ensures.met)

pub returns-in-Found-clause-met : goal.returns-in-Found-clause-met
returns-in-Found-clause-met g c =
    rw c.in-Found.is (found_met c.args.job.now c.in-Found.found c.args.options.now c.args.counts c.execute_found.result _ _ c.execute_found.ensures.met)
