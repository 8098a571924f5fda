use Rattle.btx_ends.proofs.CodeLemmas.{FirstHold}
use Rattle.btx_ends.proofs.PileLemmas.{FilledAt}
use Rattle.btx_ends.proofs.replacements.all_filled.Given as goal

abbrev pub invariant-loop-number : goal.invariant-loop-number
invariant-loop-number l = FirstHold (FilledAt l.style l.filled) l.number
