use Rattle.std.proofs.Common.{arith, rules, ◌≡◌, ◌-◌, ◌+◌, ◌∙◌, ap, drop, refl, sym, subst, [], ◌∷◌}
use Rattle.std.proofs.lemmas.List.{drop_all, drop-map}
use Rattle.btx_machine.proofs.Common.{Style, items_view}
use Rattle.btx_machine.proofs.ComesLemmas.{on_err}
use Rattle.btx_bst.specs.refinement.Views.{item_view}
use Rattle.btx_machine.proofs.DoLemmas.{all_at_rest, item_ends, item_fails, items_done, none_done, one_done}
use Rattle.btx_machine.specs.refinement.Places.{shown}
use Rattle.btx_machine.proofs.HandLemmas.{handed_none}
use Rattle.btx_machine.proofs.ItemMeets.{items_failed, midway_begun, next_item}
use Rattle.btx_machine.proofs.SayLemmas.{drop_step}
use Rattle.btx_machine.proofs.items.do_items.Goals as goal

pub returns-in_err-code-clause-err : goal.returns-in_err-code-clause-err
returns-in_err-code-clause-err g c = on_err c.from_residual.result (all_at_rest c.args.job.now [] (items_view c.args.items.now) c.args.work.now c.args.left.now)

pub returns-in_err-marks-clause-err : goal.returns-in_err-marks-clause-err
returns-in_err-marks-clause-err g c =
    on_err c.from_residual-in_err-marks.result (all_at_rest c.args.job.now [] (items_view c.args.items.now) c.args.work.now c.args.left.now)

pub returns-in_err-code-clause-met : goal.returns-in_err-code-clause-met
returns-in_err-code-clause-met g c = handed_none (shown c.args.work.now.outputs.log)

pub returns-in_err-marks-clause-met : goal.returns-in_err-marks-clause-met
returns-in_err-marks-clause-met g c = handed_none (shown c.args.work.now.outputs.log)

pub returns-in_err-end-clause-err : goal.returns-in_err-end-clause-err
returns-in_err-end-clause-err g c =
    let midway = midway_begun c.loop-number.number c.begin_item.ensures c.loop-number.invariant.midway in
    on_err c.from_residual-in_err-end.result (item_fails c.args.job.now (item_view _) (items_view (drop c.loop-number.number c.args.items.now))
    (items_view (drop (c.loop-number.number + 1) c.args.items.now)) (items_view c.args.items.now) c.loop-number.list.items c.args.work.now
    c.begin_item.new.self
    c.do_item.new.work.outputs (c.args.left.now - c.loop-number.left) (ap items_view (drop_step c.args.items.now c.loop-number.number _ (omega arith)))
    midway.same c.loop-number.left c.args.left.now (omega (arith, midway.fewer)) c.in_err-end.ensures.err)

pub returns-in_default-clause-outcome : goal.returns-in_default-clause-outcome
returns-in_default-clause-outcome g c =
    let midway = midway_begun c.loop-number.number c.begin_item.ensures c.loop-number.invariant.midway in
    item_ends c.args.job.now (item_view _) (items_view (drop c.loop-number.number c.args.items.now))
    (items_view (drop (c.loop-number.number + 1) c.args.items.now)) (items_view c.args.items.now) c.loop-number.list.items c.args.work.now c.begin_item.new.self
    c.do_item.new.work.outputs (c.args.left.now - c.loop-number.left) (ap items_view (drop_step c.args.items.now c.loop-number.number _ (omega arith)))
    midway.same c.do_item.new.work (c.loop-number.left - c.do_item.new.left) (c.args.left.now - c.do_item.new.left)
    (omega (arith, midway.fewer, c.do_item.ensures.fewer)) c.in_ok-end.end c.in_default.not-Finished c.in_ok-end.ensures.outcome

pub loop-number-init : goal.loop-number-init
loop-number-init g c = record {
  midway = none_done c.args.job.now (items_view c.args.items.now) c.new-list.result.items c.args.work.now c.in_ok-marks.marks c.args.left.now
      c.new-list.ensures.items c.in_ok-marks.ensures c.requires;
  met = handed_none (shown c.args.work.now.outputs.log);
  counts = ((refl, refl, refl), refl, refl, refl);
}

pub loop-number-preserved : goal.loop-number-preserved
loop-number-preserved g c =
    let midway = midway_begun c.loop-number.number c.begin_item.ensures c.loop-number.invariant.midway in
    record {
      midway = one_done c.args.job.now (items_view c.args.items.now) c.loop-number.list.items midway
          (ap items_view (drop_step c.args.items.now c.loop-number.number _ (omega arith))) (c.in_ok-end.ensures.list c.in-Finished.is)
          (c.in_ok-end.ensures.cleared c.in-Finished.is) c.do_item.ensures.fewer c.in_ok-end.ensures.writes (rw c.in-Finished.is at c.in_ok-end.ensures.outcome);
      met = next_item c.args.job.now (items_view c.args.items.now) (c.args.left.now - c.loop-number.left) (c.args.left.now - c.do_item.new.left) c.args.work.now
          c.loop-number.work c.in_ok-code.code (c.in_ok-code.ensures ∙ ap (λ (style : Style). style.bodies) c.style.ensures) c.loop-number.number (item_view _)
          (items_view (drop c.loop-number.number c.args.items.now)) (items_view (drop (c.loop-number.number + 1) c.args.items.now)) c.loop-number.list.items
          (c.loop-number.left - c.do_item.new.left)
          (drop-map item_view c.loop-number.number c.args.items.now ∙ ap items_view (drop_step c.args.items.now c.loop-number.number _ (omega arith)))
          (ap items_view (drop_step c.args.items.now c.loop-number.number _ (omega arith)))
          (omega (arith, c.loop-number.invariant.midway.fewer, c.do_item.ensures.fewer)) c.loop-number.invariant.midway.same c.begin_item.new.self
          c.do_item.new.work c.begin_item.ensures c.loop-number.invariant.met c.in_ok-end.ensures.met;
      counts = ((search rules, search rules, search rules), search rules, search rules, search rules);
    }

pub returns-clause-outcome : goal.returns-clause-outcome
returns-clause-outcome g c = items_done c.args.job.now (items_view (drop c.loop-number.number c.args.items.now)) (items_view c.args.items.now)
    c.loop-number.list.items c.args.work.now c.loop-number.work (c.args.left.now - c.loop-number.left)
    (ap items_view (drop_all c.loop-number.number c.args.items.now (omega arith))) c.loop-number.invariant.midway.same

pub returns-in_err-end-clause-met : goal.returns-in_err-end-clause-met
returns-in_err-end-clause-met g c = items_failed c.args.job.now (items_view c.args.items.now) c.args.left.now c.do_item.new.left c.args.work.now
    c.do_item.new.work c.from_residual-in_err-end.result c.from_residual-in_err-end.ensures.0
    (next_item c.args.job.now (items_view c.args.items.now) (c.args.left.now - c.loop-number.left) c.args.left.now c.args.work.now
    c.loop-number.work c.in_ok-code.code (c.in_ok-code.ensures ∙ ap (λ (style : Style). style.bodies) c.style.ensures) c.loop-number.number (item_view _)
    (items_view (drop c.loop-number.number c.args.items.now)) (items_view (drop (c.loop-number.number + 1) c.args.items.now)) c.loop-number.list.items
    c.loop-number.left
    (drop-map item_view c.loop-number.number c.args.items.now ∙ ap items_view (drop_step c.args.items.now c.loop-number.number _ (omega arith)))
    (ap items_view (drop_step c.args.items.now c.loop-number.number _ (omega arith)))
    (omega (arith, c.loop-number.invariant.midway.fewer)) c.loop-number.invariant.midway.same c.begin_item.new.self
    c.do_item.new.work c.begin_item.ensures c.loop-number.invariant.met c.in_err-end.ensures.met)

pub returns-in_default-clause-met : goal.returns-in_default-clause-met
returns-in_default-clause-met g c = next_item c.args.job.now (items_view c.args.items.now) (c.args.left.now - c.loop-number.left)
    (c.args.left.now - c.do_item.new.left) c.args.work.now
    c.loop-number.work c.in_ok-code.code (c.in_ok-code.ensures ∙ ap (λ (style : Style). style.bodies) c.style.ensures) c.loop-number.number (item_view _)
    (items_view (drop c.loop-number.number c.args.items.now)) (items_view (drop (c.loop-number.number + 1) c.args.items.now)) c.loop-number.list.items
    (c.loop-number.left - c.do_item.new.left)
    (drop-map item_view c.loop-number.number c.args.items.now ∙ ap items_view (drop_step c.args.items.now c.loop-number.number _ (omega arith)))
    (ap items_view (drop_step c.args.items.now c.loop-number.number _ (omega arith)))
    (omega (arith, c.loop-number.invariant.midway.fewer, c.do_item.ensures.fewer)) c.loop-number.invariant.midway.same c.begin_item.new.self
    c.do_item.new.work c.begin_item.ensures c.loop-number.invariant.met c.in_ok-end.ensures.met
