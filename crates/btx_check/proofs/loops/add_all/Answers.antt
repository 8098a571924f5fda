use Rattle.std.proofs.Common.{rules, map-id}
use Rattle.std.proofs.lemmas.Iterator.Consumers.{YieldsList-end}
use Rattle.std.proofs.lemmas.Iterator.Adapters.{YieldsList-from_vec}
use Rattle.btx_check.proofs.AddLemmas.{sub_then}
use Rattle.btx_check.proofs.RunLemmas.{sub_more}
use Rattle.btx_check.proofs.loops.add_all.Goals as goal

pub loop-a-preserved : goal.loop-a-preserved
loop-a-preserved c = (
  sub_more _ _ _ (sub_then _ _ _ c.loop-a.invariant.0 c.in_ok-add_sure.ensures.sub) c.in_ok-add_sure.ensures.into,
  sub_then _ _ _ c.loop-a.invariant.1 c.in_ok-add_sure.ensures.sub,
)

pub returns-clause-these : goal.returns-clause-these
returns-clause-these c =
    let end = YieldsList-end (YieldsList-from_vec {s = c.into_iter-a-iterator.result} c.args.states.items (search rules) (search rules))
    c.loop-a.yielded c.loop-a.a-iterator c.loop-a.yielded_by c.next.result c.next.new.self c.in-None.is c.next.ensures.steps in
    rw (← end.0, map-id) c.loop-a.invariant.0
