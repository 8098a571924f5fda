use Rattle.btx_bib.proofs.CutLemmas.{cut-gives-the-same}
use Rattle.btx_bib.proofs.laws.cut_gives_the_same.Goals as goal

pub returns : goal.returns
returns c = cut-gives-the-same
