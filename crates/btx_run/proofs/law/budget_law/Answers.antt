use Rattle.btx_run.proofs.LawLemmas.{holds}
use Rattle.btx_run.proofs.law.budget_law.Goals as goal

pub returns : goal.returns
returns c = holds
