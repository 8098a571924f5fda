use Rattle.btx_check.proofs.CodeLemmas.{code_swap}
use Rattle.btx_check.proofs.stack_rules.swap.Goals as goal

pub returns-in_ok-add_pushed_both-in-Some : goal.returns-in_ok-add_pushed_both-in-Some
returns-in_ok-add_pushed_both-in-Some c = λ t. code_swap _ _ _ _ _ _ _ _ (rw c.in-Some.is at c.pair_of.ensures) c.in_ok-add_pushed_both-in-Some.ensures
