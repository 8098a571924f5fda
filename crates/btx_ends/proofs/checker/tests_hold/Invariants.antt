use Rattle.btx_ends.proofs.CodeLemmas.{FirstHold, TestAt}
use Rattle.btx_ends.proofs.checker.tests_hold.Given as goal

abbrev pub invariant-loop-number : goal.invariant-loop-number
invariant-loop-number l = FirstHold (TestAt l.tests l.style) l.number
