use Rattle.btx_step.proofs.RowLemmas.{strings_end}
use Rattle.btx_step.proofs.laws.strings_end_at_limit.Goals as goal

pub returns : goal.returns
returns c = strings_end
