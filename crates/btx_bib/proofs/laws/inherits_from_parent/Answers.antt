use Rattle.btx_bib.proofs.InheritLemmas.{inherits-from-parent}
use Rattle.btx_bib.proofs.laws.inherits_from_parent.Goals as goal

pub returns : goal.returns
returns c = inherits-from-parent
