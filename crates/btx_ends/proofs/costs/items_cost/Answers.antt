use Rattle.std.proofs.Common.{arith, ap}
use Rattle.std.proofs.lemmas.List.{drop_all}
use Rattle.btx_bst.specs.refinement.Views.{items_view}
use Rattle.btx_ends.proofs.CodeLemmas.{items_step, items_end}
use Rattle.btx_ends.proofs.costs.items_cost.Goals as goal

pub loop-item-preserved : goal.loop-item-preserved
loop-item-preserved c =
    items_step _ _ _ _ _ _ _ _ _ _ (omega arith) c.loop-item.invariant c.in_ok-bound.ensures c.in_ok-once.ensures.1 c.in_ok-each.ensures.1

pub returns : goal.returns
returns c = items_end _ _ _ _ _ (ap items_view (drop_all c.loop-item.item-index c.args.items.now (omega arith))) c.loop-item.invariant
