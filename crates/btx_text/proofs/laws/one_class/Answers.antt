use Rattle.btx_text.proofs.ClassLemmas.{one_class}
use Rattle.btx_text.proofs.laws.one_class.Goals as goal

pub returns : goal.returns
returns c = one_class
