use Rattle.btx_check.proofs.CodeLemmas.{code_plus, two_at}
use Rattle.btx_check.proofs.known_rules.plus.Goals as goal

pub returns-in_ok-add_new-in-Integer-Integer : goal.returns-in_ok-add_new-in-Integer-Integer
returns-in_ok-add_new-in-Integer-Integer c =
    λ t. code_plus _ _ _ _ _ _ _ _ _ _ _
    (two_at _ _ _ _ _ _ _ _ (rw c.in-Some.is at c.pair_of.ensures) c.in-Integer-Integer.is-0 c.in-Integer-Integer.is-1)
    c.in_ok-add_new-in-Integer-Integer.ensures c.sum_of.ensures
