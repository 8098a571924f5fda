use Rattle.std.proofs.Common.{arith, rules}
use Rattle.btx_check.proofs.AddLemmas.{sub_same}
use Rattle.btx_check.proofs.RunLemmas.{sub_step}
use Rattle.btx_check.proofs.loops.all_in.Goals as goal

pub loop-a-preserved : goal.loop-a-preserved
loop-a-preserved c = sub_step _ _ _ c.args.heads.now _ _ (omega arith) c.a-item.is c.loop-a.invariant (sub_same _)
    (c.in_ok-is_in.ensures (search (rules, c.if-not-branch.false)))
