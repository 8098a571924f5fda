use Rattle.std.proofs.Common.{drop}
use Rattle.btx_where.specs.Calls.{AreCalls}
use Rattle.btx_where.proofs.calls.are_calls.Given as goal

-- if the levels that are left lead to the call so far, all lead to `next`
abbrev pub invariant-loop-level : goal.invariant-loop-level
invariant-loop-level l = AreCalls l.job l.entry l.function (drop l.level-index l.levels) l.inside → AreCalls l.job l.entry l.function l.levels l.fn.next
