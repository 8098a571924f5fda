use Rattle.btx_step.proofs.AppliedLemmas.{applied_or_reported}
use Rattle.btx_step.proofs.laws.applied_or_reported.Goals as goal

pub returns : goal.returns
returns c = applied_or_reported
