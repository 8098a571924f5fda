use Rattle.btx_core.proofs.CornerCore as by
use Rattle.btx_core.proofs.laws.corner_products.Goals as goal

pub returns : goal.returns
returns c = by.worked
