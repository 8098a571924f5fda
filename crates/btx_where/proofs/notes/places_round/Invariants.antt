use Rattle.std.proofs.Common.{◌≡◌, drop}
use Rattle.btx_where.specs.Notes.{places_round}
use Rattle.btx_where.proofs.notes.places_round.Given as goal

-- none of the places so far is the one
abbrev pub invariant-loop-index : goal.invariant-loop-index
invariant-loop-index l = places_round l.at (drop l.index l.places) ≡ places_round l.fn.at l.places
