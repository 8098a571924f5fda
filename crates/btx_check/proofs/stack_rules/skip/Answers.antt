use Rattle.btx_check.proofs.CodeLemmas.{code_skip}
use Rattle.btx_check.proofs.stack_rules.skip.Goals as goal

pub returns : goal.returns
returns c = λ t. code_skip _ _ _ c.in_ok-add_sure.ensures
