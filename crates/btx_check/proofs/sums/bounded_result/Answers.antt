use Rattle.std.proofs.Common.{rules}
use Rattle.btx_check.proofs.BoundLemmas.{result_from_zero, result_to_zero, result_any, count_at, integer_at}
use Rattle.btx_check.proofs.sums.bounded_result.Goals as goal

pub returns-then-is_at_least : goal.returns-then-is_at_least
returns-then-is_at_least c = λ left z h g. count_at _ left _ c.any_count.ensures
    (result_from_zero left z (c.is_at_least.ensures (search (rules, c.if-is_at_least.true)) z h))

pub returns-then-is_at_most : goal.returns-then-is_at_most
returns-then-is_at_most c = λ left z h g. result_to_zero left z (c.is_at_most.ensures (search (rules, c.if-is_at_most.true)) left z g)

pub returns : goal.returns
returns c = λ left z h g. integer_at _ left _ c.any_integer.ensures (result_any left z)
