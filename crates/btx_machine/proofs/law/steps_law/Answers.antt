use Rattle.btx_machine.proofs.NeedsLemmas as by
use Rattle.btx_machine.proofs.law.steps_law.Goals as goal

pub returns-clause-needed : goal.returns-clause-needed
returns-clause-needed c = by.needed

pub returns-clause-stopped : goal.returns-clause-stopped
returns-clause-stopped c = by.stopped
