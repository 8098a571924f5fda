use Rattle.btx_ends.specs.Certificates.{walks_by}
use Rattle.btx_ends.proofs.CodeLemmas.{FirstHold, MoveAt}
use Rattle.btx_ends.proofs.walks.all_move.Given as goal

abbrev pub invariant-loop-number : goal.invariant-loop-number
invariant-loop-number l = FirstHold (MoveAt l.style (walks_by l.walks) l.moves) l.number
