use Rattle.std.proofs.Common.{arith, ◌∙◌}
use Rattle.std.proofs.lemmas.List.{take_all}
use Rattle.btx_check.proofs.RunLemmas.{copied_step}
use Rattle.btx_check.proofs.loops.copies_of.Goals as goal

pub loop-a-preserved : goal.loop-a-preserved
loop-a-preserved c = copied_step _ _ _ _ _ _ (omega arith) c.a-item.is c.loop-a.invariant c.in_ok-push.ensures.items c.in_ok-b.ensures

pub returns : goal.returns
returns c = c.loop-a.invariant ∙ take_all c.loop-a.a-index c.args.states.now (omega arith)
