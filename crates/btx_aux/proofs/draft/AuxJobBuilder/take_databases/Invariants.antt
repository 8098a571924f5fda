use Rattle.std.proofs.Common.{◌≡◌, true}
use Rattle.btx_aux.specs.language.Grammar.{pieces_of}
use Rattle.btx_aux.specs.refinement.Drafts.{with_databases}
use Rattle.btx_aux.proofs.draft.AuxJobBuilder.take_databases.Given as goal

-- the pieces left do the rest
abbrev pub invariant-loop-piece : goal.invariant-loop-piece
invariant-loop-piece l =
    with_databases l.place.file.now l.place.line l.self l.piece-iterator
    ≡ with_databases l.place.file.now l.place.line l.fn.self (pieces_of true l.argument)
