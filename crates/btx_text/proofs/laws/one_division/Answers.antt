use Rattle.btx_text.proofs.DivisionLemmas.{elements_of-divides, elements_of-only}
use Rattle.btx_text.proofs.laws.one_division.Goals as goal

pub returns : goal.returns
returns c = record { divides = elements_of-divides; only = elements_of-only }
