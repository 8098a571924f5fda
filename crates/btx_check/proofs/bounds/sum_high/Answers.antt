use Rattle.std.proofs.Common.{subst, suc}
use Rattle.btx_check.specs.declared.description.Upper.{Upper}
use Rattle.btx_check.specs.Descriptions.{Below}
use Rattle.btx_check.proofs.bounds.sum_high.Goals as goal

pub returns-in-Number-b : goal.returns-in-Number-b
returns-in-Number-b c = λ left x y h g. c.number_sum.ensures (suc left) left x y (subst (λ (u : Upper). Below (suc left) u x) c.in-Number.is h)
    (subst (λ (u : Upper). Below (suc left) u y) c.in-Number-b.is g)
