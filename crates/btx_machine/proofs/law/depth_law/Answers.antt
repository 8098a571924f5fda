use Rattle.btx_machine.proofs.DeepLemmas as by
use Rattle.btx_machine.proofs.law.depth_law.Goals as goal

pub returns : goal.returns
returns c = by.holds
