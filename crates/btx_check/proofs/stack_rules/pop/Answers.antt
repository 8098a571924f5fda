use Rattle.btx_check.proofs.CodeLemmas.{code_pop}
use Rattle.btx_check.proofs.stack_rules.pop.Goals as goal

pub returns-in_ok-add_sure-in-Some : goal.returns-in_ok-add_sure-in-Some
returns-in_ok-add_sure-in-Some c = λ t. code_pop _ _ _ _ _ _ (rw c.in-Some.is at c.top_of.ensures) c.in_ok-add_sure-in-Some.ensures
