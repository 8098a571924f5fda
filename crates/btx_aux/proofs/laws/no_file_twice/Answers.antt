use Rattle.btx_aux.proofs.OpeningLemmas.{no_file_twice}
use Rattle.btx_aux.proofs.laws.no_file_twice.Goals as goal

pub returns : goal.returns
returns c = no_file_twice
