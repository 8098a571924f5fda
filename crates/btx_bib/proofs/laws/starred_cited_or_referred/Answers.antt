use Rattle.btx_bib.proofs.StayingLemmas.{starred-cited-or-referred}
use Rattle.btx_bib.proofs.laws.starred_cited_or_referred.Goals as goal

pub returns : goal.returns
returns c = starred-cited-or-referred
