use Rattle.std.proofs.Common.{◌≡◌}
use Rattle.btx_check.proofs.adding.add_possible.Given as goal

abbrev pub invariant-loop-k : goal.invariant-loop-k
invariant-loop-k l = l.out.items ≡ l.initial.out.items
