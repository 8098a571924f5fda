use Rattle.btx_bib.proofs.ListLemmas.{keys-differ}
use Rattle.btx_bib.proofs.laws.keys_differ.Goals as goal

pub returns : goal.returns
returns c = keys-differ
