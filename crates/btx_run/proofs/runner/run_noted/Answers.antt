use Rattle.btx_run.proofs.DirectLemmas.{report_stays}
use Rattle.btx_run.proofs.LoggingLemmas.{counts_of_noted}
use Rattle.btx_run.proofs.ReadingLemmas.{of_logged}
use Rattle.btx_run.proofs.WrittenLemmas.{began, wrote}
use Rattle.btx_run.proofs.runner.run_noted.Goals as goal

pub returns-in-Ok-clause-report : goal.returns-in-Ok-clause-report
returns-in-Ok-clause-report g c = of_logged (g.F.Finder.content c.args.finder.now) _ _ c.in-Ok.ensures.ok (λ files completes. completes.report_is)

pub returns-in-Ok-clause-bbl : goal.returns-in-Ok-clause-bbl
returns-in-Ok-clause-bbl g c = of_logged (g.F.Finder.content c.args.finder.now) _ _ c.in-Ok.ensures.ok (λ files completes. completes.bbl_whole)

pub returns-in-Ok-clause-log : goal.returns-in-Ok-clause-log
returns-in-Ok-clause-log g c = of_logged (g.F.Finder.content c.args.finder.now) _ _ c.in-Ok.ensures.ok (λ files completes. completes.log_whole)

pub returns-in-Ok-clause-direct : goal.returns-in-Ok-clause-direct
returns-in-Ok-clause-direct g c =
    of_logged (g.F.Finder.content c.args.finder.now) _ _ c.in-Ok.ensures.ok
    (λ files completes. report_stays files c.args.name.now c.args.options.now _ completes.report_is)

pub returns-in-Ok-clause-written : goal.returns-in-Ok-clause-written
returns-in-Ok-clause-written g c =
    of_logged (g.F.Finder.content c.args.finder.now) _ _ c.in-Ok.ensures.ok (λ files completes. wrote files c.args.name.now c.args.options.now
    (g.W.Sink.received c.args.bbl.now, g.L.Sink.received c.args.log.now) (g.W.Sink.received c.run_noting.new.bbl, g.L.Sink.received c.run_noting.new.log)
    c.in-Ok.report c.has_room.ensures completes)

pub returns-in-Err-Memory-clause-broken_off : goal.returns-in-Err-Memory-clause-broken_off
returns-in-Err-Memory-clause-broken_off g c =
    of_logged (g.F.Finder.content c.args.finder.now) _ _ c.in-Err-Memory.ensures.err (λ files fails. began files c.args.name.now c.args.options.now
    (g.W.Sink.received c.args.bbl.now, g.L.Sink.received c.args.log.now) (g.W.Sink.received c.run_noting.new.bbl, g.L.Sink.received c.run_noting.new.log)
    c.has_room.ensures fails)

pub returns-in-Err-Device-clause-broken_off : goal.returns-in-Err-Device-clause-broken_off
returns-in-Err-Device-clause-broken_off g c =
    of_logged (g.F.Finder.content c.args.finder.now) _ _ c.in-Err-Device.ensures.err (λ files fails. began files c.args.name.now c.args.options.now
    (g.W.Sink.received c.args.bbl.now, g.L.Sink.received c.args.log.now) (g.W.Sink.received c.run_noting.new.bbl, g.L.Sink.received c.run_noting.new.log)
    c.has_room.ensures fails)

pub returns-in-Ok-clause-counted : goal.returns-in-Ok-clause-counted
returns-in-Ok-clause-counted g c = counts_of_noted _ c.in-Ok.report c.in-Ok.ensures.counted
