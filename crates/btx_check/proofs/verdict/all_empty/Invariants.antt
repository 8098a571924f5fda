use Rattle.std.proofs.Common.{take}
use Rattle.btx_check.specs.Running.{Each, IsEmpty}
use Rattle.btx_check.proofs.verdict.all_empty.Given as goal

abbrev pub invariant-loop-a : goal.invariant-loop-a
invariant-loop-a l = Each IsEmpty (take l.a-index l.states)
