use Rattle.btx_step.proofs.StartLemmas.{begin_with_limits}
use Rattle.btx_step.proofs.laws.limits_begin_as_set.Goals as goal

pub returns : goal.returns
returns c = begin_with_limits
