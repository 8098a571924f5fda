use Rattle.std.proofs.Common.{◌-◌, ◌∙◌, ap}
use Rattle.btx_bst.specs.refinement.Views.{item_view}
use Rattle.btx_machine.proofs.ComesLemmas.{ok_map}
use Rattle.btx_machine.proofs.DoLemmas.{iterate_runs, reverse_runs}
use Rattle.btx_machine.specs.declared.ending.Ending.TheVariants as ends
use Rattle.btx_where.proofs.RestLemmas.{execute_stands, iterate_stands, ok_both, reverse_stands}
use Rattle.btx_where.proofs.items.do_item.Goals as goal

pub returns-in-Execute-clause-stands : goal.returns-in-Execute-clause-stands
returns-in-Execute-clause-stands g c = ok_both c.visit.result (λ end same stands running here. execute_stands c.args.program.job.now c.args.program.code.now
    c.visit.new.at c.visit.new.marks
    c.args.work.now c.visit.new.work (c.args.left.now - c.visit.new.left) c.args.list.now.items (item_view c.args.item.now) c.in-Execute.function running
    (ap item_view c.in-Execute.is) (same running here) (stands running here)) c.visit.ensures.here c.visit.ensures.stands

pub returns-in-Iterate-clause-stands : goal.returns-in-Iterate-clause-stands
returns-in-Iterate-clause-stands g c = ok_map (λ end stands running here. iterate_stands c.args.program.job.now c.args.program.code.now c.visit_all.new.at
    c.visit_all.new.marks c.args.work.now c.visit_all.new.work (c.args.left.now - c.visit_all.new.left) c.args.list.now.items (item_view c.args.item.now)
    c.in-Iterate.function running (ap item_view c.in-Iterate.is) c.as_slice.result.now c.as_slice.ensures.value (stands running here)) c.visit_all.result
    c.visit_all.ensures.stands

pub returns-in_ok-reversed-in-Reverse-clause-stands : goal.returns-in_ok-reversed-in-Reverse-clause-stands
returns-in_ok-reversed-in-Reverse-clause-stands g c = ok_map (λ end stands running here. reverse_stands c.args.program.job.now c.args.program.code.now
    c.visit_all-in-Reverse.new.at c.visit_all-in-Reverse.new.marks c.args.work.now c.visit_all-in-Reverse.new.work (c.args.left.now
    - c.visit_all-in-Reverse.new.left) c.args.list.now.items (item_view c.args.item.now) c.in-Reverse.function running (ap item_view c.in-Reverse.is)
    c.as_slice-in-Reverse.result.now (c.as_slice-in-Reverse.ensures.value ∙ c.in_ok-reversed-in-Reverse.ensures) (stands running here))
    c.visit_all-in-Reverse.result
    c.visit_all-in-Reverse.ensures.stands

pub returns-in-Iterate-clause-finishes : goal.returns-in-Iterate-clause-finishes
returns-in-Iterate-clause-finishes g c = ok_map (λ end comes finished. iterate_runs c.args.program.job.now c.args.list.now.items c.in-Iterate.function
    (item_view c.args.item.now) c.args.work.now c.args.left.now c.visit_all.new.work.outputs (ap item_view c.in-Iterate.is) c.as_slice.result.now
    c.as_slice.ensures.value c.visit_all.new.work (c.args.left.now - c.visit_all.new.left) ends.Finished (comes finished)) c.visit_all.result
    c.visit_all.ensures.finishes

pub returns-in_ok-reversed-in-Reverse-clause-finishes : goal.returns-in_ok-reversed-in-Reverse-clause-finishes
returns-in_ok-reversed-in-Reverse-clause-finishes g c = ok_map (λ end comes finished. reverse_runs c.args.program.job.now c.args.list.now.items
    c.in-Reverse.function (item_view c.args.item.now) c.args.work.now c.args.left.now c.visit_all-in-Reverse.new.work.outputs (ap item_view c.in-Reverse.is)
    c.as_slice-in-Reverse.result.now (c.as_slice-in-Reverse.ensures.value ∙ c.in_ok-reversed-in-Reverse.ensures) c.visit_all-in-Reverse.new.work
    (c.args.left.now - c.visit_all-in-Reverse.new.left) ends.Finished (comes finished)) c.visit_all-in-Reverse.result c.visit_all-in-Reverse.ensures.finishes
