use Rattle.std.proofs.Common.{arith, rules, ◌∙◌}
use Rattle.btx_check.proofs.MemoLemmas.{recalls_of}
use Rattle.btx_check.proofs.memo.VisitCache.recall.Goals as goal

pub returns : goal.returns
returns c = recalls_of _ _ c.index-entry.result.now _ _ _ _ _ (search rules) c.index-entry.ensures (omega (arith, c.if-entry-i.false))
    (omega arith) (omega arith)
    (c.in_ok-is_same.ensures (search (rules, c.if-not-branch.false))) (c.in_ok-states.ensures ∙ c.deref.ensures.value)
