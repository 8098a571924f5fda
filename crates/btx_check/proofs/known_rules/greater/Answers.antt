use Rattle.btx_check.proofs.CodeLemmas.{code_greater}
use Rattle.btx_check.proofs.known_rules.greater.Goals as goal

pub returns-in_ok-add_compared-in-Integer-Integer : goal.returns-in_ok-add_compared-in-Integer-Integer
returns-in_ok-add_compared-in-Integer-Integer c =
    λ t. code_greater _ _ _ _ _ _ _ _ _ _ _ _ _ _ _ _ (rw c.in-Some.is at c.pair_of.ensures) c.in-Integer-Integer.is-0 c.in-Integer-Integer.is-1
    c.in_ok-add_compared-in-Integer-Integer.ensures c.if_greater.ensures.so c.if_greater.ensures.other
