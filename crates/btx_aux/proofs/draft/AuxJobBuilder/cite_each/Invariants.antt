use Rattle.std.proofs.Common.{◌≡◌, map, true}
use Rattle.btx_aux.specs.language.Grammar.{Cites, pieces_of}
use Rattle.btx_aux.specs.refinement.Drafts.{learned_words}
use Rattle.btx_aux.proofs.draft.AuxJobBuilder.cite_each.Given as goal

-- the pieces left do the rest
abbrev pub invariant-loop-piece : goal.invariant-loop-piece
invariant-loop-piece l =
    learned_words l.place.file.now l.place.line l.self (map Cites l.piece-iterator)
    ≡ learned_words l.place.file.now l.place.line l.fn.self (map Cites (pieces_of true l.argument))
