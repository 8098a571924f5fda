use Rattle.std.proofs.Common.{arith}
use Rattle.btx_c.proofs.HandedLemmas.{beside_known, beside_unknown}
use Rattle.btx_c.proofs.supposed.copy_or_suppose.Goals as goal

pub returns-in-Some-clause-bytes : goal.returns-in-Some-clause-bytes
returns-in-Some-clause-bytes c = grind (arith, beside_known, c.in_ok-found.ensures.said, c.in-Some.is)

pub returns-in-None-clause-bytes : goal.returns-in-None-clause-bytes
returns-in-None-clause-bytes c = grind (arith, beside_unknown, c.in_ok-found.ensures.said, c.in-None.is)
