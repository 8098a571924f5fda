use Rattle.std.proofs.Common.{ℕ, ◌<◌, [], slice_index_or}
use Rattle.btx_bst.proofs.direct.is_direct.Given as goal
use Rattle.btx_bst.specs.refinement.Direct.{IsDirectBody}

abbrev pub invariant-loop-number : goal.invariant-loop-number
invariant-loop-number l = (k : ℕ) → k < l.number → IsDirectBody (slice_index_or l.style.bodies k [])
