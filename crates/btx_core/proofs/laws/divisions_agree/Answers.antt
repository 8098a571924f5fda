use Rattle.btx_core.proofs.SamePartLemmas.{one, some}
use Rattle.btx_core.proofs.laws.divisions_agree.Goals as goal

pub returns : goal.returns
returns c = record { one = one; some = some }
