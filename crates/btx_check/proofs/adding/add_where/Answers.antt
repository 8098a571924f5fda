use Rattle.std.proofs.Common.{rules}
use Rattle.btx_check.proofs.AddLemmas.{added_nothing}
use Rattle.btx_check.proofs.adding.add_where.Goals as goal

pub returns-then-is_impossible_at : goal.returns-then-is_impossible_at
returns-then-is_impossible_at c = added_nothing _ _ (c.is_impossible_at.ensures (search (rules, c.if-is_impossible_at.true)))
