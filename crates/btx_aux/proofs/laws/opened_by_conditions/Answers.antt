use Rattle.btx_aux.proofs.OpeningLemmas.{opens_by_conditions, top_opens_first}
use Rattle.btx_aux.proofs.laws.opened_by_conditions.Goals as goal

pub returns : goal.returns
returns c = record { top = top_opens_first; included = opens_by_conditions }
