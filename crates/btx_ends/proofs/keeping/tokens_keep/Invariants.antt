use Rattle.std.proofs.Common.{drop}
use Rattle.btx_ends.specs.Keeping.{said_by}
use Rattle.btx_ends.proofs.CodeLemmas.{KeptSoFar}
use Rattle.btx_ends.proofs.keeping.tokens_keep.Given as goal

abbrev pub invariant-loop-token : goal.invariant-loop-token
invariant-loop-token l = KeptSoFar l.one (said_by l.keeps) l.v l.body (drop l.token-index l.body) l.top l.below
