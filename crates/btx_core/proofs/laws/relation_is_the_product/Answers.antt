use Rattle.btx_core.proofs.SameProductLemmas as by
use Rattle.btx_core.proofs.laws.relation_is_the_product.Goals as goal

pub returns : goal.returns
returns c = by.holds
