use Rattle.std.proofs.Common.{◌-◌, [], drop}
use Rattle.btx_machine.proofs.Common.{items_view, NoneFailed, do_items, Midway, Reached}
use Rattle.btx_machine.specs.refinement.Places.{MeetsInItems}
use Rattle.btx_machine.proofs.items.do_items.Given as goal

-- the items that are left remain to be done
abbrev pub invariant-loop-number : goal.invariant-loop-number
invariant-loop-number g l = record {
  midway : Midway l.fn.work l.work l.marks l.fn.left l.left
      (Reached (do_items l.job (items_view l.items) []) (do_items l.job (items_view (drop l.number l.items)) l.list.items) (l.fn.left - l.left));
  met : MeetsInItems l.job (items_view l.items) (l.fn.left - l.left) l.fn.work l.work;
  counts : NoneFailed l.fn.work.outputs l.work.outputs;
}
