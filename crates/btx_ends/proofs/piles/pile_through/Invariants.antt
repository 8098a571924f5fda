use Rattle.std.proofs.Common.{drop}
use Rattle.btx_ends.specs.Shortening.{kinds_by}
use Rattle.btx_ends.proofs.PileLemmas.{PiledSoFar}
use Rattle.btx_ends.proofs.piles.pile_through.Given as goal

abbrev pub invariant-loop-token : goal.invariant-loop-token
invariant-loop-token l = PiledSoFar (kinds_by l.kinds) l.fn.start l.xs (drop l.token-index l.xs) l.pile
