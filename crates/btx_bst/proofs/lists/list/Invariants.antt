use Rattle.std.proofs.Common.{◌≡◌, ◌<◌, ◌+◌, ◌^◌}
use Rattle.btx_bst.specs.language.Places.{size}
use Rattle.btx_bst.specs.language.Lists.{list_at, list_end, listing}
use Rattle.btx_bst.specs.refinement.Weights.{names_weight}
use Rattle.btx_bst.proofs.lists.list.Given as goal

-- what is left of the list does the rest
abbrev pub invariant-loop-complaint : goal.invariant-loop-complaint
invariant-loop-complaint l = record {
  goes : list_end l.kind (listing l.names l.cursor) ≡ list_at l.kind l.fn.names l.fn.cursor;
  room : size l.cursor + names_weight l.names < 2 ^ 32;
}

abbrev pub decreases-loop-complaint : goal.decreases-loop-complaint
decreases-loop-complaint l = size l.cursor
