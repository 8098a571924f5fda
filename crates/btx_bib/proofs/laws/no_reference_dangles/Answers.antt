use Rattle.btx_bib.proofs.ParentLemmas.{no-reference-dangles}
use Rattle.btx_bib.proofs.laws.no_reference_dangles.Goals as goal

pub returns : goal.returns
returns c = no-reference-dangles
