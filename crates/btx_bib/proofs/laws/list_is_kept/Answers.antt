use Rattle.btx_bib.proofs.StayingLemmas.{list-is-kept}
use Rattle.btx_bib.proofs.laws.list_is_kept.Goals as goal

pub returns : goal.returns
returns c = list-is-kept
