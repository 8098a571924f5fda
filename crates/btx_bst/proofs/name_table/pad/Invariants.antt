use Rattle.std.proofs.Common.{◌-◌, length}
use Rattle.btx_bst.proofs.PaddingLemmas.{Pads}
use Rattle.btx_bst.proofs.name_table.pad.Given as goal

abbrev pub invariant-loop-functions : goal.invariant-loop-functions
invariant-loop-functions l = Pads l.fn.functions.items l.functions.items l.count

abbrev pub decreases-loop-functions : goal.decreases-loop-functions
decreases-loop-functions l = l.count - length l.functions.items
