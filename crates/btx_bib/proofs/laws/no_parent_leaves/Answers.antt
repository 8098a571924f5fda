use Rattle.btx_bib.proofs.ParentStayLemmas.{no-parent-leaves}
use Rattle.btx_bib.proofs.laws.no_parent_leaves.Goals as goal

pub returns : goal.returns
returns c = no-parent-leaves
