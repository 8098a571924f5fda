use Rattle.std.proofs.Common.{rules, ap, ◌∙◌}
use Rattle.btx_machine.proofs.Common.{log_counts, report_of}
use Rattle.btx_machine.specs.language.Reports.{end_as}
use Rattle.btx_machine.proofs.ComesLemmas.{on_err, err_map}
use Rattle.btx_machine.proofs.SayLemmas.{on_ok_map}
use Rattle.btx_machine.proofs.LastLemmas.{unfinished_part, line_part, line_whole}
use Rattle.btx_machine.proofs.StyleMeets.{concluded, concluded_last, unlogged}
use Rattle.btx_machine.proofs.last.conclude.Goals as goal

pub returns-clause-ok : goal.returns-clause-ok
returns-clause-ok g c = rw (← c.work.view_is)
    (on_ok_map (line_whole (record { store = c.work.inside.store; outputs = c.work.inside.outputs }) c.args.end c.args.steps c.finish.new.outputs c.end.new.self
    c.finish.ensures.log c.in_ok-finish.ensures.ok c.end.ensures.bbl c.deepest.result c.deepest.ensures c.counts-counts.result c.counts-counts.ensures.warnings
    c.counts-counts.ensures.errors c.report_of-report.result
    (c.report_of-report.ensures ∙ ap (λ end. report_of end c.args.steps c.deepest.result c.counts-counts.result) c.of.ensures)) c.end.result c.end.ensures.ok)

pub returns-clause-err : goal.returns-clause-err
returns-clause-err g c = rw (← c.work.view_is)
    (err_map (line_part (record { store = c.work.inside.store; outputs = c.work.inside.outputs }) c.args.end c.args.steps c.finish.new.outputs c.end.new.self
    c.finish.ensures.log c.in_ok-finish.ensures.ok c.end.ensures.bbl c.deepest.result c.deepest.ensures c.counts-counts.result c.counts-counts.ensures.warnings
    c.counts-counts.ensures.errors c.report_of-report.result
    (c.report_of-report.ensures ∙ ap (λ end. report_of end c.args.steps c.deepest.result c.counts-counts.result) c.of.ensures)) c.end.result c.end.ensures.err)

pub returns-in_err-finish-clause-err : goal.returns-in_err-finish-clause-err
returns-in_err-finish-clause-err g c =
    rw (← c.work.view_is) (on_err c.from_residual.result (unfinished_part (record { store = c.work.inside.store; outputs = c.work.inside.outputs }) c.args.end
    c.args.steps c.finish.new.outputs c.finish.ensures.log c.in_err-finish.ensures.err))

pub returns-in_err-finish-clause-met : goal.returns-in_err-finish-clause-met
returns-in_err-finish-clause-met g c = rw (← c.work.view_is) (unlogged c.work.inside.outputs.log c.finish.new.outputs.log c.finish.new.outputs.log c.finish.ensures.log)

pub returns-clause-met : goal.returns-clause-met
returns-clause-met g c = rw (← c.work.view_is) (concluded c.work.inside.outputs.log c.finish.new.outputs.log c.end.new.self.log c.finish.ensures.log
    c.report_of-report.result (report_of (end_as c.args.end) c.args.steps c.work.inside.store.deepest
    (log_counts c.work.inside.outputs.log.warnings c.work.inside.outputs.log.errors)) (search rules) c.end.ensures.met)

pub returns-clause-last : goal.returns-clause-last
returns-clause-last g c = rw (← c.work.view_is) (concluded_last c.work.inside.outputs.log c.finish.new.outputs.log c.end.new.self.log c.finish.ensures.log
    c.end.result c.end.ensures.last)
