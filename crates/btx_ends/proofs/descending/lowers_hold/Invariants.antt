use Rattle.btx_ends.specs.Shortening.{kinds_by}
use Rattle.btx_ends.proofs.CodeLemmas.{FirstHold}
use Rattle.btx_ends.proofs.PileLemmas.{LowerAt}
use Rattle.btx_ends.proofs.descending.lowers_hold.Given as goal

abbrev pub invariant-loop-number : goal.invariant-loop-number
invariant-loop-number l = FirstHold (LowerAt l.style (kinds_by l.kinds) l.claims) l.number
