use Rattle.btx_check.proofs.CodeLemmas.{code_less}
use Rattle.btx_check.proofs.known_rules.less.Goals as goal

pub returns-in_ok-add_compared-in-Integer-Integer : goal.returns-in_ok-add_compared-in-Integer-Integer
returns-in_ok-add_compared-in-Integer-Integer c =
    λ t. code_less _ _ _ _ _ _ _ _ _ _ _ _ _ _ _ _ (rw c.in-Some.is at c.pair_of.ensures) c.in-Integer-Integer.is-0 c.in-Integer-Integer.is-1
    c.in_ok-add_compared-in-Integer-Integer.ensures c.if_less.ensures.so c.if_less.ensures.other
