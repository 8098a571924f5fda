use Rattle.btx_ends.specs.Shortening.{kinds_by}
use Rattle.btx_ends.proofs.CodeLemmas.{FirstHold}
use Rattle.btx_ends.proofs.PileLemmas.{AskAt}
use Rattle.btx_ends.proofs.descending.asks_hold.Given as goal

abbrev pub invariant-loop-number : goal.invariant-loop-number
invariant-loop-number l = FirstHold (AskAt l.style (kinds_by l.kinds) l.claims) l.number
