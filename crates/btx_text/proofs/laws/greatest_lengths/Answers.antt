use Rattle.std.proofs.Common.{refl}
use Rattle.btx_text.proofs.laws.greatest_lengths.Goals as goal

pub returns : goal.returns
returns c = record { file = refl; string = refl }
