use Rattle.btx_step.proofs.RowLemmas.{reads_back}
use Rattle.btx_step.proofs.laws.reads_back.Goals as goal

pub returns : goal.returns
returns c = reads_back
