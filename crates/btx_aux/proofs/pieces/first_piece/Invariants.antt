use Rattle.btx_aux.proofs.PieceLemmas.{Passed}
use Rattle.btx_aux.proofs.pieces.first_piece.Given as goal

-- no byte so far ends a piece
abbrev pub invariant-loop-at : goal.invariant-loop-at
invariant-loop-at l = Passed l.is_list l.text l.at
