use Rattle.std.proofs.Common.{rules, arith, suc}
use Rattle.std.specs.Prelude.{◌-ℤ◌}
use Rattle.std.proofs.lemmas.Int.{ints}
use Rattle.btx_check.proofs.BoundLemmas.{result_fits}
use Rattle.btx_check.proofs.sums.difference_of.Goals as goal

pub returns : goal.returns
returns c = λ left few x y o p. let k = c.is_at_least.ensures (search (rules, c.if-not-is_at_least.false)) x o.0 in
    let l = c.is_at_most.ensures (search (rules, c.if-not-is_at_most.false)) (suc left) y p.1 in
    result_fits left (x -ℤ y) c.difference_low-least.result c.difference_high-most.result (omega (arith, ints, k, l))
    (c.is_low_difference.ensures (search (rules, c.if-not-is_low_difference.false)) (suc left) x y o.1 p.0)
    (c.difference_low-least.ensures (suc left) x y o.0 p.1) (c.difference_high-most.ensures left x y o.1 p.0)
