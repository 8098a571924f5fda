use Rattle.btx_aux.proofs.OpeningLemmas.{no_key_twice}
use Rattle.btx_aux.proofs.laws.no_key_twice.Goals as goal

pub returns : goal.returns
returns c = no_key_twice
