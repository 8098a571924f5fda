use Rattle.std.proofs.Common.{drop}
use Rattle.btx_bst.specs.refinement.Views.{items_view}
use Rattle.btx_ends.specs.Views.{claims_of}
use Rattle.btx_ends.proofs.CodeLemmas.{ItemsReached}
use Rattle.btx_ends.proofs.costs.items_cost.Given as goal

abbrev pub invariant-loop-item : goal.invariant-loop-item
invariant-loop-item l = ItemsReached (claims_of l.claims) (items_view l.items) (items_view (drop l.item-index l.items)) l.once l.each
