use Rattle.std.proofs.Common.{drop}
use Rattle.btx_ends.specs.Views.{claims_of}
use Rattle.btx_ends.proofs.CodeLemmas.{Reached}
use Rattle.btx_ends.proofs.costs.body_cost.Given as goal

abbrev pub invariant-loop-token : goal.invariant-loop-token
invariant-loop-token l = Reached (claims_of l.claims) l.body (drop l.token-index l.body) l.cost l.top l.below
