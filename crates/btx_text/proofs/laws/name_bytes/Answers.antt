use Rattle.std.proofs.Common.{refl}
use Rattle.btx_text.proofs.laws.name_bytes.Goals as goal

pub returns : goal.returns
returns c = record { none = refl; inside = refl }
