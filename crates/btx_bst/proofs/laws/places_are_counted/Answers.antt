use Rattle.btx_bst.proofs.SpotLemmas.{spot-law}
use Rattle.btx_bst.proofs.laws.places_are_counted.Goals as goal

pub returns : goal.returns
returns c = spot-law
