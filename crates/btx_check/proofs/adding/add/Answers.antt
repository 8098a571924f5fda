use Rattle.std.proofs.Common.{rules}
use Rattle.btx_check.proofs.AddLemmas.{added_nothing}
use Rattle.btx_check.proofs.adding.add.Goals as goal

pub returns-then-is_impossible : goal.returns-then-is_impossible
returns-then-is_impossible c = added_nothing _ _ (c.is_impossible.ensures (search (rules, c.if-is_impossible.true)))
