use Rattle.std.proofs.Common.{drop}
use Rattle.btx_ends.specs.Shortening.{kinds_by, effects_by}
use Rattle.btx_ends.proofs.CodeLemmas.{LedSoFar}
use Rattle.btx_ends.proofs.shortening.tokens_through.Given as goal

abbrev pub invariant-loop-token : goal.invariant-loop-token
invariant-loop-token l = LedSoFar l.style l.m (kinds_by l.kinds) (effects_by l.effects) l.begun l.body (drop l.token-index l.body) l.so_far l.tops
