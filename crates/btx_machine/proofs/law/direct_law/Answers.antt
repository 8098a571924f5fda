use Rattle.btx_machine.proofs.DirectRuns as by
use Rattle.btx_machine.proofs.law.direct_law.Goals as goal

pub returns : goal.returns
returns c = by.holds
