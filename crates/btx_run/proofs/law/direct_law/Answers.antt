use Rattle.btx_run.proofs.DirectLemmas.{holds}
use Rattle.btx_run.proofs.law.direct_law.Goals as goal

pub returns : goal.returns
returns c = holds
