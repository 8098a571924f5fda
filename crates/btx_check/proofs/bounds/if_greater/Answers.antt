use Rattle.btx_check.proofs.BoundLemmas.{narrows_up, narrows_down}
use Rattle.btx_check.proofs.bounds.if_greater.Goals as goal

pub returns-clause-so : goal.returns-clause-so
returns-clause-so c = narrows_up _ _ _ _ _ _ _ _ c.next.ensures c.raise.ensures c.previous.ensures c.lower.ensures

pub returns-clause-other : goal.returns-clause-other
returns-clause-other c = narrows_down _ _ _ _ _ _ c.lower-2.ensures c.raise-2.ensures
