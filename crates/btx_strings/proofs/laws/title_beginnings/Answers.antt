use Rattle.btx_strings.proofs.TitleLemmas.{title_beginnings}
use Rattle.btx_strings.proofs.laws.title_beginnings.Goals as goal

pub returns : goal.returns
returns c = title_beginnings
