use Rattle.std.proofs.Common.{drop}
use Rattle.btx_check.specs.Answers.{TakenSoFar}
use Rattle.btx_check.proofs.operands.take.Given as goal

abbrev pub invariant-loop-operand : goal.invariant-loop-operand
invariant-loop-operand l = TakenSoFar l.operands (drop l.operand-index l.operands) l.fn.a l.below
