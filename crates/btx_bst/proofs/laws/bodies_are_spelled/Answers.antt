use Rattle.btx_bst.proofs.SpellingLemmas.{divided}
use Rattle.btx_bst.proofs.laws.bodies_are_spelled.Goals as goal

pub returns-clause-divided : goal.returns-clause-divided
returns-clause-divided c = divided
