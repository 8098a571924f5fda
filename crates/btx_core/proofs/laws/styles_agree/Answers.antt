use Rattle.btx_core.proofs.SameStyleLemmas.{one_style, same_style}
use Rattle.btx_core.proofs.laws.styles_agree.Goals as goal

pub returns : goal.returns
returns c = record { one = one_style; same = same_style }
