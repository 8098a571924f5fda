use Rattle.std.proofs.Common.{◌≡◌, drop}
use Rattle.btx_step.proofs.store.operands.drop_literals.Given as goal

abbrev pub invariant-loop-literal : goal.invariant-loop-literal
invariant-loop-literal l = l.literals ≡ drop l._literal l.initial.literals
