use Rattle.btx_strings.proofs.ShortestLemmas.{take_characters-shortest}
use Rattle.btx_strings.proofs.laws.shortest_prefix.Goals as goal

pub returns : goal.returns
returns c = take_characters-shortest
