use Rattle.btx_ends.proofs.CodeLemmas.{FirstHold, KeepsAt}
use Rattle.btx_ends.proofs.keeping.functions_keep.Given as goal

abbrev pub invariant-loop-number : goal.invariant-loop-number
invariant-loop-number l = FirstHold (KeepsAt l.keeps l.v l.style) l.number
