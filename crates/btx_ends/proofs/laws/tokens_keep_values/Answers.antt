use Rattle.btx_ends.proofs.KeepLemmas.{tokens_keep_values}
use Rattle.btx_ends.proofs.laws.tokens_keep_values.Goals as goal

pub returns : goal.returns
returns c = tokens_keep_values
