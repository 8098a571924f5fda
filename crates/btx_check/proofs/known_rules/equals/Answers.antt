use Rattle.std.proofs.Common.{refl, rules}
use Rattle.btx_check.proofs.CodeLemmas.{code_equals, code_equals_integers, new_at}
use Rattle.btx_check.proofs.known_rules.equals.Goals as goal

pub returns-in_ok-add_compared-in-Integer-Integer : goal.returns-in_ok-add_compared-in-Integer-Integer
returns-in_ok-add_compared-in-Integer-Integer c =
    λ t. code_equals_integers _ _ _ _ _ _ _ _ _ _ _ _ _ _ _ _ (rw c.in-Some.is at c.pair_of.ensures) c.in-Integer-Integer.is-0 c.in-Integer-Integer.is-1
    c.in_ok-add_compared-in-Integer-Integer.ensures c.if_equal.ensures.so c.if_equal.ensures.other

pub returns-in_ok-add_new-in_default-2 : goal.returns-in_ok-add_new-in_default-2
returns-in_ok-add_new-in_default-2 c = λ t. code_equals _ _ _ _ _ _ _ _ _ (rw c.in-Some.is at c.pair_of.ensures)
    (c.is_comparable.ensures (search (rules, c.if-not-is_comparable.false)))
    (new_at _ _ _ _ _ _ c.in_ok-copy-in_default.ensures c.one.ensures c.in_ok-add_new-in_default.ensures)
    (new_at _ _ _ _ _ _ refl c.zero.ensures c.in_ok-add_new-in_default-2.ensures)
