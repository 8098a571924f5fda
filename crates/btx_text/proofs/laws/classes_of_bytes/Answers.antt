use Rattle.std.proofs.Common.{refl}
use Rattle.btx_text.proofs.laws.classes_of_bytes.Goals as goal

pub returns : goal.returns
returns c = record { white = refl; separators = refl; letters = refl }
