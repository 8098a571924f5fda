use Rattle.std.proofs.Common.{rules}
use Rattle.btx_machine.specs.language.Product.{style_product}
use Rattle.btx_machine.proofs.ComesLemmas.{on_err}
use Rattle.btx_machine.proofs.RunLemmas.{nothing_written}
use Rattle.btx_run.proofs.ProductLemmas.{completes_of, counts_of_style, fails_of, read_is}
use Rattle.btx_machine.proofs.HandLemmas.{handed_none}
use Rattle.btx_run.proofs.MetRuns.{style_same}
use Rattle.btx_run.proofs.runner.execute_found.Goals as goal
use Rattle.btx_run.specs.refinement.Product.{work_in}

pub returns-in_err-style-clause-err : goal.returns-in_err-style-clause-err
returns-in_err-style-clause-err g c =
    on_err c.from_residual.result (nothing_written (g.W.Sink.received c.args.bbl.now, g.L.LogSink.received c.args.log.now)
    (style_product (work_in c.args.job.now c.args.found.now c.args.options.now) c.args.counts c.args.options.now.line) c.args.options.now.budget)

pub returns-in_err-style-clause-counts : goal.returns-in_err-style-clause-counts
returns-in_err-style-clause-counts g c =
    counts_of_style c.from_residual.result c.in_err-style.field-0.0 c.name.result.now c.bytes.result.now _ _ (search rules) c.in_err-style.ensures
    (rw c.bytes.ensures c.requires)

pub returns-in_err-library-clause-err : goal.returns-in_err-library-clause-err
returns-in_err-library-clause-err g c =
    on_err c.from_residual-in_err-library.result (nothing_written (g.W.Sink.received c.args.bbl.now, g.L.LogSink.received c.args.log.now)
    (style_product (work_in c.args.job.now c.args.found.now c.args.options.now) c.args.counts c.args.options.now.line) c.args.options.now.budget)

pub returns-clause-ok : goal.returns-clause-ok
returns-clause-ok g c =
    completes_of _ _ c.args.counts c.args.options.now.line c.args.options.now.budget _ _ (read_is c.args.job.now c.args.found.now c.args.options.now
    c.in_ok-style.style c.in_ok-library.library c.in_ok-style.ensures.0 c.name.ensures c.bytes.ensures c.in_ok-library.ensures.library)
    c.execute.result c.execute.ensures.ok

pub returns-clause-err : goal.returns-clause-err
returns-clause-err g c =
    fails_of _ _ c.args.counts c.args.options.now.line c.args.options.now.budget _ _ (read_is c.args.job.now c.args.found.now c.args.options.now
    c.in_ok-style.style c.in_ok-library.library c.in_ok-style.ensures.0 c.name.ensures c.bytes.ensures c.in_ok-library.ensures.library)
    c.execute.result c.execute.ensures.err

pub returns-in_err-style-clause-met : goal.returns-in_err-style-clause-met
returns-in_err-style-clause-met g c = handed_none _

pub returns-in_err-library-clause-met : goal.returns-in_err-library-clause-met
returns-in_err-library-clause-met g c = handed_none _

pub returns-clause-met : goal.returns-clause-met
returns-clause-met g c =
    style_same c.args.counts c.args.options.now.line c.args.options.now.budget c.execute.result _ _ _ _ (read_is c.args.job.now c.args.found.now c.args.options.now
    c.in_ok-style.style c.in_ok-library.library c.in_ok-style.ensures.0 c.name.ensures c.bytes.ensures c.in_ok-library.ensures.library)
    c.execute.ensures.met
