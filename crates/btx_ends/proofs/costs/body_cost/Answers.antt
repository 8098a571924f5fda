use Rattle.std.proofs.Common.{arith}
use Rattle.std.proofs.lemmas.List.{drop_all}
use Rattle.btx_ends.proofs.CodeLemmas.{reached_step, reached_end}
use Rattle.btx_ends.proofs.costs.body_cost.Goals as goal

pub loop-token-preserved : goal.loop-token-preserved
loop-token-preserved c =
    reached_step _ _ _ _ _ _ _ _ _ _ _ (omega arith) c.loop-token.invariant c.in_ok-step.ensures c.top_after-after.ensures c.below_after-below.ensures
    c.in_ok-cost.ensures.1

pub returns : goal.returns
returns c = reached_end _ _ _ _ _ _ (drop_all c.loop-token.token-index c.args.body.now (omega arith)) c.loop-token.invariant
