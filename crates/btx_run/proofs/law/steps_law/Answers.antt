use Rattle.btx_run.proofs.StepsLemmas as by
use Rattle.btx_run.proofs.law.steps_law.Goals as goal

pub returns-clause-needed : goal.returns-clause-needed
returns-clause-needed c = by.needed

pub returns-clause-stopped : goal.returns-clause-stopped
returns-clause-stopped c = by.stopped
