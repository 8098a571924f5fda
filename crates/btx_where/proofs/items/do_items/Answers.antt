use Rattle.std.proofs.Common.{arith, ◌-◌, ◌+◌, ◌∙◌, ap, drop}
use Rattle.std.proofs.lemmas.List.{drop-map}
use Rattle.btx_bst.specs.refinement.Views.{item_view, items_view}
use Rattle.btx_machine.proofs.DoLemmas.{one_done}
use Rattle.btx_machine.proofs.SayLemmas.{drop_step}
use Rattle.btx_where.proofs.RestLemmas.{item_stands}
use Rattle.btx_where.proofs.items.do_items.Goals as goal

pub returns-in_default-clause-stands : goal.returns-in_default-clause-stands
returns-in_default-clause-stands g c = λ running here. item_stands c.args.program.job.now c.args.program.code.now c.do_item.new.at
    c.do_item.new.marks c.args.work.now
    c.loop-number.work c.do_item.new.work (c.args.left.now - c.loop-number.left) (c.loop-number.left - c.do_item.new.left)
    (c.args.left.now - c.do_item.new.left)
    (omega (arith, c.loop-number.invariant.fewer, c.do_item.ensures.fewer)) c.stand_in-in_default.new.self.item running (item_view _)
    (items_view (drop c.loop-number.number c.args.items.now))
    (items_view (drop (c.loop-number.number + 1) c.args.items.now)) (items_view c.args.items.now) c.loop-number.list.items
    (ap items_view (drop_step c.args.items.now c.loop-number.number _ (omega arith)))
    (ap (λ n. drop n (items_view c.args.items.now)) c.stand_in-in_default.ensures ∙ drop-map item_view c.loop-number.number c.args.items.now)
    c.loop-number.invariant.same (c.in_ok-end.ensures.stands running here)

pub loop-number-preserved : goal.loop-number-preserved
loop-number-preserved g c = one_done c.args.program.job.now (items_view c.args.items.now) c.loop-number.list.items c.loop-number.invariant
    (ap items_view (drop_step c.args.items.now c.loop-number.number _ (omega arith))) (c.in_ok-end.ensures.list c.in-Finished.is)
    (c.in_ok-end.ensures.cleared c.in-Finished.is) c.do_item.ensures.fewer c.in_ok-end.ensures.writes (c.in_ok-end.ensures.finishes c.in-Finished.is)
