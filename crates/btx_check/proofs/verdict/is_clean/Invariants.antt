use Rattle.std.proofs.Common.{take}
use Rattle.btx_bst.specs.refinement.Views.{items_view}
use Rattle.btx_check.specs.Between.{Begins, IsGlobal}
use Rattle.btx_check.proofs.verdict.is_clean.Given as goal

abbrev pub invariant-loop-item : goal.invariant-loop-item
invariant-loop-item l = Begins l.style l.allowed l.deepest (items_view (take l.item-index l.items)) l.known × IsGlobal l.known.globals
