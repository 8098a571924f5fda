use Rattle.btx_ends.proofs.CodeLemmas.{FirstHold, CountAt}
use Rattle.btx_ends.proofs.checker.counts_hold.Given as goal

abbrev pub invariant-loop-number : goal.invariant-loop-number
invariant-loop-number l = FirstHold (CountAt l.counts l.style) l.number
