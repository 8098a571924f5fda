use Rattle.btx_text.proofs.ElementLemmas.{elements_of-low, elements_of-bytes}
use Rattle.btx_text.proofs.laws.same_in_both_modes.Goals as goal

pub returns : goal.returns
returns c = record { same = elements_of-low; bytes = elements_of-bytes }
