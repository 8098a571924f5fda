use Rattle.std.proofs.Common.{arith, rules}
use Rattle.btx_check.proofs.RunLemmas.{turned_step}
use Rattle.btx_check.proofs.loops.turn_all.Goals as goal

pub loop-a-preserved : goal.loop-a-preserved
loop-a-preserved c = turned_step _ _ _ _ _ _ _ _ _ (omega arith) c.a-item.is c.loop-a.invariant (c.in_ok-turn.ensures (search (rules, c.if-not-branch.false)))
