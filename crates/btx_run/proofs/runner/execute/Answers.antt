use Rattle.btx_run.proofs.ProductLemmas.{completes_of, fails_of}
use Rattle.btx_run.proofs.MetRuns.{style_same}
use Rattle.btx_run.proofs.runner.execute.Goals as goal

pub returns-clause-ok : goal.returns-clause-ok
returns-clause-ok g c = completes_of _ _ c.args.counts c.args.options.now.line c.args.options.now.budget _ _ c.new-job.ensures c.execute_style.result
    c.execute_style.ensures.ok

pub returns-clause-err : goal.returns-clause-err
returns-clause-err g c = fails_of _ _ c.args.counts c.args.options.now.line c.args.options.now.budget _ _ c.new-job.ensures c.execute_style.result
    c.execute_style.ensures.err

pub returns-clause-met : goal.returns-clause-met
returns-clause-met g c = style_same c.args.counts c.args.options.now.line c.args.options.now.budget c.execute_style.result _ _ _ _ c.new-job.ensures
    c.execute_style.ensures.met
