use Rattle.std.proofs.Common.{◌≡◌, ℕ, length, slice_index_or, None}
use Rattle.btx_check.specs.Between.{IsShifted}
use Rattle.btx_check.proofs.state.shifted.Given as goal

abbrev pub invariant-loop-number : goal.invariant-loop-number
invariant-loop-number l = (length l.greater.items ≡ l.number-index)
    × ((f : ℕ) → IsShifted l.n (slice_index_or l.numbers f None) (slice_index_or l.greater.items f None))
