use Rattle.btx_aux.specs.language.Answers.{names_asked}
use Rattle.btx_run.specs.refinement.Files.Names.{top_name}
use Rattle.btx_aux.proofs.AnswerLemmas.{shown_by}
use Rattle.btx_machine.proofs.ComesLemmas.{err_map, ok_map, on_err}
use Rattle.btx_machine.proofs.RunLemmas.{nothing_written}
use Rattle.btx_core.specs.refinement.ComputedProduct.{product_with}
use Rattle.btx_run.proofs.AskedLemmas.{begun_once, of_run}
use Rattle.btx_run.proofs.ReadingLemmas.{of_any, of_both}
use Rattle.btx_run.proofs.ProductLemmas.{completes_named, fails_named}
use Rattle.btx_machine.specs.refinement.Places.{most_steps}
use Rattle.btx_machine.proofs.HandLemmas.{handed_none}
use Rattle.btx_run.proofs.MetRuns.{named_met, run_ends}
use Rattle.btx_run.proofs.runner.run_named.Goals as goal

pub returns-in_err-job-clause-err : goal.returns-in_err-job-clause-err
returns-in_err-job-clause-err g c =
    on_err c.from_residual.result (of_any (g.F.Finder.content c.args.finder.now) _
    (λ files. nothing_written (g.W.Sink.received c.args.bbl.now, g.L.LogSink.received c.args.log.now) (product_with files c.args.name.now c.args.options.now)
    c.args.options.now.budget))

pub returns-clause-ok : goal.returns-clause-ok
returns-clause-ok g c =
    ok_map (λ report by. of_both (g.F.Finder.content c.args.finder.now) (g.F.Finder.content c.read_job.new.finder) _ _ _ c.read_job.ensures.stays
    c.in_ok-job.ensures.job (shown_by by)
    (completes_named c.args.name.now c.args.options.now _ _ c.in_ok-job.job report)) c.run_job.result c.run_job.ensures.ok

pub returns-clause-err : goal.returns-clause-err
returns-clause-err g c =
    err_map (λ by. of_both (g.F.Finder.content c.args.finder.now) (g.F.Finder.content c.read_job.new.finder) _ _ _ c.read_job.ensures.stays
    c.in_ok-job.ensures.job (shown_by by)
    (fails_named c.args.name.now c.args.options.now _ _ c.in_ok-job.job)) c.run_job.result c.run_job.ensures.err

pub returns-in_err-job-clause-begun : goal.returns-in_err-job-clause-begun
returns-in_err-job-clause-begun g c =
    let asked = c.in_err-job.ensures.asked in
    on_err c.from_residual.result (record {
      answers = asked.answers;
      are_given = asked.given;
      once = begun_once (top_name c.args.name.now) (names_asked asked.answers) asked.asks;
      fails = λ files agree. nothing_written (g.W.Sink.received c.args.bbl.now, g.L.LogSink.received c.args.log.now)
          (product_with files c.args.name.now c.args.options.now) c.args.options.now.budget;
    })

pub returns-clause-answered : goal.returns-clause-answered
returns-clause-answered g c =
    ok_map (λ report by.
    let whole = of_run c.args.name.now c.in_ok-job.job c.read_job.ensures.stays c.in_ok-job.ensures.answered by
    (completes_named c.args.name.now c.args.options.now _ _ c.in_ok-job.job report) in
    record { answers = whole.answers; are_given = whole.given; once = whole.asks; completes = whole.holds }) c.run_job.result c.run_job.ensures.ok

pub returns-clause-begun : goal.returns-clause-begun
returns-clause-begun g c =
    err_map (λ by.
    let whole = of_run c.args.name.now c.in_ok-job.job c.read_job.ensures.stays c.in_ok-job.ensures.answered by
    (fails_named c.args.name.now c.args.options.now _ _ c.in_ok-job.job) in
    record { answers = whole.answers; are_given = whole.given; once = whole.asks; fails = whole.holds }) c.run_job.result c.run_job.ensures.err

pub returns-in_err-job-clause-met : goal.returns-in_err-job-clause-met
returns-in_err-job-clause-met g c = of_any (g.F.Finder.content c.args.finder.now) _ (λ files. handed_none _)

pub returns-clause-met : goal.returns-clause-met
returns-clause-met g c =
    of_both (g.F.Finder.content c.args.finder.now) (g.F.Finder.content c.read_job.new.finder) _ _ _ c.read_job.ensures.stays
    c.in_ok-job.ensures.job (shown_by c.run_job.ensures.met)
    (λ files is hands. named_met files c.args.name.now c.args.options.now (most_steps c.run_job.result c.args.options.now.budget) c.in_ok-job.job _ _ is hands)

pub returns-in_err-job-clause-met_as_answered : goal.returns-in_err-job-clause-met_as_answered
returns-in_err-job-clause-met_as_answered g c =
    let asked = c.in_err-job.ensures.asked in record {
      answers = asked.answers;
      are_given = asked.given;
      once = begun_once (top_name c.args.name.now) (names_asked asked.answers) asked.asks;
      met = λ files agree. handed_none _;
    }

pub returns-clause-met_as_answered : goal.returns-clause-met_as_answered
returns-clause-met_as_answered g c =
    let whole = of_run c.args.name.now c.in_ok-job.job c.read_job.ensures.stays c.in_ok-job.ensures.answered c.run_job.ensures.met
    (λ files is hands. named_met files c.args.name.now c.args.options.now (most_steps c.run_job.result c.args.options.now.budget) c.in_ok-job.job _ _ is hands) in
    record { answers = whole.answers; are_given = whole.given; once = whole.asks; met = whole.holds }

pub returns-clause-last : goal.returns-clause-last
returns-clause-last g c =
    ok_map (λ report by. run_ends c.args.name.now c.in_ok-job.job c.read_job.ensures.stays c.in_ok-job.ensures.answered by)
    c.run_job.result c.run_job.ensures.last
