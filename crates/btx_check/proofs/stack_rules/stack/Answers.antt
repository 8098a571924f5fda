use Rattle.btx_check.proofs.CodeLemmas.{code_stack}
use Rattle.btx_check.proofs.stack_rules.stack.Goals as goal

pub returns : goal.returns
returns c = λ t. code_stack _ _ _ c.in_ok-add_without_stack.ensures
