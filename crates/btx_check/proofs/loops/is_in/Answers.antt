use Rattle.std.proofs.Common.{arith, rules}
use Rattle.btx_check.proofs.RunLemmas.{into_read}
use Rattle.btx_check.proofs.loops.is_in.Goals as goal

pub returns-then-branch : goal.returns-then-branch
returns-then-branch c = λ t. into_read _ _ _ _ (omega arith) c.b-item.is (c.in_ok-is_inside.ensures (search (rules, c.if-branch.true)))
