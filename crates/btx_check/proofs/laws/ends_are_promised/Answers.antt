use Rattle.btx_check.proofs.CalmLemmas.{limits_are_seen, steps_are_promised}
use Rattle.btx_check.proofs.laws.ends_are_promised.Goals as goal

pub returns : goal.returns
returns c = record { limits = limits_are_seen; steps = steps_are_promised }
