use Rattle.btx_names.proofs.PartLemmas.{nothing_counted}
use Rattle.btx_names.proofs.token_list.TokenList.new.Goals as goal

pub invariant_of-result : goal.invariant_of-result
invariant_of-result c = record { counted = rw c.new.ensures.items nothing_counted }
