use Rattle.std.proofs.Common.{◌-◌, [], drop}
use Rattle.btx_bst.specs.refinement.Views.{items_view}
use Rattle.btx_machine.specs.language.Items.{do_items}
use Rattle.btx_machine.specs.refinement.Progress.{Midway, Reached}
use Rattle.btx_where.proofs.items.do_items.Given as goal

-- the items that are left remain to be done
abbrev pub invariant-loop-number : goal.invariant-loop-number
invariant-loop-number g l = Midway l.fn.work l.work l.marks l.fn.left l.left (Reached (do_items l.program.job.now (items_view l.items) [])
    (do_items l.program.job.now (items_view (drop l.number l.items)) l.list.items) (l.fn.left - l.left))
