use Rattle.btx_machine.proofs.MeaningRows.{holds}
use Rattle.btx_machine.proofs.law.worked_bodies_come_to_this.Goals as goal

pub returns : goal.returns
returns c = holds
