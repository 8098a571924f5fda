use Rattle.std.proofs.Common.{◌-◌, ◌∙◌, ap, arith, refl}
use Rattle.btx_machine.proofs.Common.{Style, items_view, log_counts}
use Rattle.btx_machine.specs.refinement.Written.{received}
use Rattle.btx_machine.proofs.ComesLemmas.{on_err, err_map}
use Rattle.btx_machine.proofs.DoLemmas.{ok_both}
use Rattle.btx_machine.specs.refinement.Places.{shown}
use Rattle.btx_machine.proofs.RunLemmas.{new_stands, items_fail, closes, close_fails, reports}
use Rattle.btx_machine.proofs.StyleMeets.{last_of_style, style_done, style_failed}
use Rattle.btx_machine.proofs.run.do_all.Goals as goal

pub returns-in_err-end-clause-err : goal.returns-in_err-end-clause-err
returns-in_err-end-clause-err g c =
    on_err c.from_residual.result (items_fail c.args.job.now (log_counts c.args.work.now.outputs.log.warnings c.args.work.now.outputs.log.errors)
    c.args.work.now.outputs.breaker.line_length c.requires.range c.args.work.now (received c.args.work.now.outputs) c.requires.store
    (new_stands c.args.work.now.outputs.breaker.line_length c.requires.range c.args.work.now.outputs c.requires.fresh) c.do_items.new.work.outputs c.args.budget
    (items_view c.items.result.now) (c.items.ensures ∙ ap (λ (style : Style). style.items) c.style.ensures) c.in_err-end.ensures.err)

pub returns-clause-ok : goal.returns-clause-ok
returns-clause-ok g c = ok_both (λ report is closed. closes c.args.job.now (log_counts c.args.work.now.outputs.log.warnings c.args.work.now.outputs.log.errors)
    c.args.work.now.outputs.breaker.line_length c.requires.range c.args.work.now (received c.args.work.now.outputs) c.requires.store
    (new_stands c.args.work.now.outputs.breaker.line_length c.requires.range c.args.work.now.outputs c.requires.fresh) c.do_items.new.work c.in_ok-end.end
    c.do_items.new.left (c.args.budget - c.do_items.new.left) c.args.budget (omega (arith, c.do_items.ensures.fewer)) c.in_ok-end.ensures.spent
    (items_view c.items.result.now) (c.items.ensures ∙ ap (λ (style : Style). style.items) c.style.ensures) c.in_ok-end.ensures.outcome
    c.conclude.new.work.outputs report is closed) c.conclude.result c.conclude.ensures.report c.conclude.ensures.ok

pub returns-clause-err : goal.returns-clause-err
returns-clause-err g c = err_map (close_fails c.args.job.now (log_counts c.args.work.now.outputs.log.warnings c.args.work.now.outputs.log.errors)
    c.args.work.now.outputs.breaker.line_length c.requires.range c.args.work.now (received c.args.work.now.outputs) c.requires.store
    (new_stands c.args.work.now.outputs.breaker.line_length c.requires.range c.args.work.now.outputs c.requires.fresh) c.do_items.new.work c.in_ok-end.end
    c.do_items.new.left (c.args.budget - c.do_items.new.left) c.args.budget (omega (arith, c.do_items.ensures.fewer)) c.in_ok-end.ensures.spent
    (items_view c.items.result.now) (c.items.ensures ∙ ap (λ (style : Style). style.items) c.style.ensures) c.in_ok-end.ensures.outcome
    c.conclude.new.work.outputs) c.conclude.result c.conclude.ensures.err

pub returns-in_err-end-clause-met : goal.returns-in_err-end-clause-met
returns-in_err-end-clause-met g c =
    let log = c.args.work.now.outputs.log in
    let line_length = c.args.work.now.outputs.breaker.line_length in
    style_failed c.args.job.now (log_counts log.warnings log.errors) line_length c.requires.range (received c.args.work.now.outputs) c.args.budget
    c.args.work.now c.requires.store (new_stands line_length c.requires.range c.args.work.now.outputs c.requires.fresh) (items_view c.items.result.now)
    (c.items.ensures ∙ ap (λ (style : Style). style.items) c.style.ensures) c.do_items.new.work c.from_residual.result c.from_residual.ensures.0
    c.in_err-end.ensures.met

pub returns-clause-met : goal.returns-clause-met
returns-clause-met g c =
    let log = c.args.work.now.outputs.log in
    let line_length = c.args.work.now.outputs.breaker.line_length in
    let stands = new_stands line_length c.requires.range c.args.work.now.outputs c.requires.fresh in
    let are = c.items.ensures ∙ ap (λ (style : Style). style.items) c.style.ensures in
    style_done c.args.job.now (log_counts log.warnings log.errors) line_length c.requires.range (received c.args.work.now.outputs) c.args.budget
    c.args.work.now c.requires.store stands (items_view c.items.result.now) are c.do_items.new.work c.conclude.new.work c.do_items.new.left _
    (reports c.args.job.now (log_counts log.warnings log.errors) line_length c.requires.range c.args.work.now (received c.args.work.now.outputs)
    c.requires.store stands c.do_items.new.work c.in_ok-end.end c.do_items.new.left (c.args.budget - c.do_items.new.left) c.args.budget
    (omega (arith, c.do_items.ensures.fewer)) c.in_ok-end.ensures.spent (items_view c.items.result.now) are c.in_ok-end.ensures.outcome) refl
    c.conclude.result c.conclude.ensures.report c.in_ok-end.ensures.met c.conclude.ensures.met

pub returns-clause-last : goal.returns-clause-last
returns-clause-last g c = last_of_style (shown c.args.work.now.outputs.log) (shown c.do_items.new.work.outputs.log) (shown c.conclude.new.work.outputs.log)
    c.conclude.result c.in_ok-end.ensures.met c.conclude.ensures.last
