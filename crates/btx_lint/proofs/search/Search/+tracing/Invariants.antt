use Rattle.std.proofs.Common.{◌+◌, ◌*◌}
use Rattle.btx_lint.proofs.search.Search.+tracing.Given as goal

abbrev pub decreases-anew : goal.decreases-anew
decreases-anew l = 8 * l.room.fuel + 3

abbrev pub decreases-body : goal.decreases-body
decreases-body l = 8 * l.room.fuel + 2

abbrev pub decreases-branch : goal.decreases-branch
decreases-branch l = 8 * l.room.fuel + 1

abbrev pub decreases-branches : goal.decreases-branches
decreases-branches l = 8 * l.room.fuel + 2

abbrev pub decreases-by_type : goal.decreases-by_type
decreases-by_type l = 8 * l.room.fuel + 1

abbrev pub decreases-choice : goal.decreases-choice
decreases-choice l = 8 * l.room.fuel + 3

abbrev pub decreases-function : goal.decreases-function
decreases-function l = 8 * l.room.fuel

abbrev pub decreases-heads : goal.decreases-heads
decreases-heads l = 8 * l.room.fuel + 3

abbrev pub decreases-token : goal.decreases-token
decreases-token l = 8 * l.room.fuel + 1

abbrev pub decreases-turns : goal.decreases-turns
decreases-turns l = 8 * l.room.fuel + 4

abbrev pub decreases-user : goal.decreases-user
decreases-user l = 8 * l.room.fuel + 4

abbrev pub invariant-body-loop-t : goal.invariant-body-loop-t
invariant-body-loop-t l = Unit {0}

abbrev pub invariant-by_type-loop-k : goal.invariant-by_type-loop-k
invariant-by_type-loop-k l = Unit {0}

abbrev pub invariant-heads-loop-e : goal.invariant-heads-loop-e
invariant-heads-loop-e l =
    (goal.iterator-heads-loop-e).can_next l.e-iterator ×
    (goal.iterator-heads-loop-e).is_finite l.e-iterator

abbrev pub invariant-heads-loop-round : goal.invariant-heads-loop-round
invariant-heads-loop-round l = Unit {0}

abbrev pub invariant-token-loop-a : goal.invariant-token-loop-a
invariant-token-loop-a l = Unit {0}
