use Rattle.std.proofs.Common.{rules, arith, suc}
use Rattle.std.specs.Prelude.{◌+ℤ◌}
use Rattle.std.proofs.lemmas.Int.{ints}
use Rattle.btx_check.proofs.BoundLemmas.{result_fits}
use Rattle.btx_check.proofs.sums.sum_of.Goals as goal

pub returns : goal.returns
returns c = λ left few x y o p. let k = c.is_at_least.ensures (search (rules, c.if-not-is_at_least.false)) x o.0 in
    let l = c.is_at_least-2.ensures (search (rules, c.if-not-is_at_least-2.false)) y p.0 in
    result_fits left (x +ℤ y) c.sum_low-least.result c.sum_high-most.result (omega (arith, ints, k, l))
    (c.is_low_sum.ensures (search (rules, c.if-not-is_low_sum.false)) (suc left) x y o.1 p.1) (c.sum_low-least.ensures x y o.0 p.0)
    (c.sum_high-most.ensures left x y o.1 p.1)
